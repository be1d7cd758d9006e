pub mod Model
pub mod Calls
pub mod Least
pub mod Planning
