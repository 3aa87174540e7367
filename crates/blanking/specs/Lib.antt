-- What stands in the table of counts. No file here holds a proof.
pub mod Counts
