-- What the entries answer and leave in the lent tables. No file here holds a proof.
pub mod Entries
