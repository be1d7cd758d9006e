pub mod Members
pub mod Tracking
pub mod Running
pub mod Promise
