-- Laws of the parsers.
pub mod Told
pub mod Errors
pub mod Parse
pub mod Extents
pub mod Fixed
pub mod Plain
pub mod ChannelGroupBlock
pub mod SourceBlock
pub mod DataListBlock
pub mod Parts
pub mod Texts
pub mod Version
pub mod Identification
