-- What the functions leave in their tables. No file here holds a proof.
pub mod Sort
pub mod Blocks
pub mod Gaps
pub mod Rows
pub mod Laid
