-- What the walk's functions are told. No file here holds a proof.
pub mod Blocks
pub mod Regions
