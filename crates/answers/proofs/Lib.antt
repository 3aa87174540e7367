-- Laws that the proofs of the entries cite.
pub mod Exits
