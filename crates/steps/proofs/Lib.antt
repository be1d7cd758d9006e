pub mod Clashes
pub mod Ranges
pub mod Pushes
pub mod Repeats
pub mod Descents
