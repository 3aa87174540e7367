-- Laws that the proofs of these functions, and of the walk above them, cite.
pub mod Entering
pub mod Reading
pub mod Walking
pub mod DataBlocks
pub mod DataLists
pub mod DataRegions
