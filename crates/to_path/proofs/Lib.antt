-- Laws that the proofs of the path's functions cite.
pub mod Finding
pub mod Going
