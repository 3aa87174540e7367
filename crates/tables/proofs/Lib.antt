-- Laws behind the functions' proofs, lowest first.
pub mod Stored
pub mod Sorting
pub mod Rows
pub mod Ordering
pub mod Gapping
pub mod Tables
pub mod Numbers
pub mod Words
pub mod Chunks
