pub mod Unstopped
