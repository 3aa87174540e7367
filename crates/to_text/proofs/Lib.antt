-- Laws that the proofs of the listing cite.
pub mod Lines
