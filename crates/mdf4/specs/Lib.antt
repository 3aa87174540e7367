-- The definition, in reading order. No file here holds a proof.
pub mod Bytes
pub mod Act
pub mod Kinds
pub mod Version
pub mod Walk
pub mod Reads
pub mod Layout
pub mod Clear
pub mod Blank
pub mod Describe
pub mod Listing
pub mod Tree
pub mod Paths
pub mod Answers
pub mod Demand3
pub mod Blanked
