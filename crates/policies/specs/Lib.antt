pub mod Places
pub mod Found
pub mod Values
pub mod Meanings
pub mod Rules
pub mod Changes
pub mod Kept
