pub mod Entries
pub mod Progress
