-- What stands in the scratch table, and the sweep over it. No file here holds a proof.
pub mod Spared
pub mod Sweep
