-- What the functions print. No file here holds a proof.
pub mod Ready
pub mod Search
pub mod Lines
pub mod Printing
