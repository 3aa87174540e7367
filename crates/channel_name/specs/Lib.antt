-- What the reading of a channel's name answers. No file here holds a proof.
pub mod Name
