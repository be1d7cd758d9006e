pub mod Next
pub mod Loading
pub mod Stored
