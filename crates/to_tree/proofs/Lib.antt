-- Laws that the proofs of the functions cite, lowest first.
pub mod Searching
pub mod Lines
pub mod Marking
pub mod Opening
pub mod Turning
