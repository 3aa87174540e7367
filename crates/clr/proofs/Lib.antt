-- Laws behind the functions' proofs, lowest first.
pub mod Writing
