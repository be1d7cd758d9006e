pub mod Kinds
pub mod Reading
pub mod Loading
pub mod Storing
