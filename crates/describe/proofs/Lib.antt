-- Laws that the proofs of the writers cite.
pub mod Own
pub mod Said
pub mod Lines
pub mod Written
pub mod Named
pub mod Names
