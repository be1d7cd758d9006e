pub mod Meanings
pub mod Plain
pub mod Counter
