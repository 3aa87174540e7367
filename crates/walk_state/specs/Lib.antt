-- What the walk's counts and lent tables hold, and what each step does to it. No file here holds a proof.
pub mod Within
pub mod Held
