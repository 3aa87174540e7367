-- What the steps of a chain answer, and parts of the walks. No file here holds a proof.
pub mod Chains
pub mod Channels
pub mod Groups
pub mod DataGroups
pub mod Header
