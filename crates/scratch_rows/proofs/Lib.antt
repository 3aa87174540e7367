-- Laws behind the functions' proofs, lowest first.
pub mod Lengths
pub mod NameCovers
pub mod Filling
pub mod Covering
