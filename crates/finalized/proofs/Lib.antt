-- Laws that the proofs of the test for finalised recordings cite.
pub mod Words
