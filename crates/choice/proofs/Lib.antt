mod Places
mod Picking
mod Amounts
mod Entering
mod Reaching
pub mod Listing
