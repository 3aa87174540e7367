-- Laws of texts that are made.
pub mod Text
pub mod Room
pub mod Digits
pub mod Format
pub mod Bits16
pub mod Preview
