pub mod Passing
pub mod KindsPassed
pub mod Cutting
pub mod Bytes
pub mod Encoded
pub mod Decoded
