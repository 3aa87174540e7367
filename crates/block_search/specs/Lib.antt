-- What the search finds. No file here holds a proof.
pub mod Search
