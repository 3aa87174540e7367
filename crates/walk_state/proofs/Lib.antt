-- Laws that the proofs of these functions, and of the walk above them, cite.
pub mod Offsets
pub mod Indexes
pub mod States
pub mod Start
pub mod Steps
pub mod Room
pub mod Listing
