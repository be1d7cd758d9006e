pub mod Tails
pub mod Feeders
