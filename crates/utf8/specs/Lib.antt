-- The meaning of UTF-8 texts.
pub mod Utf8
pub mod White
pub mod Nul
pub mod Parts
