-- What stands in the lent tables behind the walk. No file here holds a proof.
pub mod Tables
