-- What the functions write. No file here holds a proof.
pub mod Covers
