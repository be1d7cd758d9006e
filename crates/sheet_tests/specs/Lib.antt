pub mod Skewed
