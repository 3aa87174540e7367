-- Laws that the proofs of the entries cite.
pub mod Standing
pub mod Exits
pub mod Promises
