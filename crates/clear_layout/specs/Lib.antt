-- What stands in the lent tables behind the first part of clear list, blanker and preview. No file here holds a proof.
pub mod Clearable
