-- Laws of UTF-8 texts.
pub mod Rules
pub mod Slices
pub mod Steps
pub mod Decoding
pub mod Trimming
pub mod White
pub mod Ends
pub mod Nul
