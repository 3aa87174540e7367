-- Laws behind the functions' proofs, lowest first.
pub mod Sweeping
pub mod SortedRanges
pub mod Clearing
