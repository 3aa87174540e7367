-- Laws that the proofs of these functions cite.
pub mod Exits
