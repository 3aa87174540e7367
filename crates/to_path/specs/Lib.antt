-- What the path's functions leave in the path table. No file here holds a proof.
pub mod Words
