-- Laws that the proofs of this entry cite.
pub mod Exits
