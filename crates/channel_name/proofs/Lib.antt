-- Laws of a channel's name.
pub mod Names
