-- Laws of little-endian numbers.
pub mod Sums
