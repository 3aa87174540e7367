-- What the entries for C and Rust write. No file here holds a proof.
pub mod Words
