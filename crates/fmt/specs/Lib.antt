-- The meaning of texts that are made.
pub mod Text
pub mod Digits
pub mod Format
pub mod Preview
