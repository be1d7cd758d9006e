-- Lemmas on text in a buffer.
pub mod Digits
pub mod Puts
