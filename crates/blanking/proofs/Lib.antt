-- Laws behind the functions' proofs.
pub mod Zeroing
pub mod Counting
