-- Laws that the proofs cite.
pub mod Entering
pub mod Chaining
pub mod ChannelSteps
pub mod GroupSteps
pub mod DataGroupSteps
pub mod HeaderSteps
