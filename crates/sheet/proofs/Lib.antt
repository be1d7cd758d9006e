pub mod Growing
pub mod Files
pub mod Promises
mod Plans
