pub mod Limits
pub mod Numbers
pub mod Placing
pub mod Sheet
