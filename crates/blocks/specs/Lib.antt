-- What the parsers answer.
pub mod Errors
pub mod Kind
pub mod Headers
pub mod Parse
pub mod HeaderBlock
pub mod DataGroupBlock
pub mod Extents
pub mod ChannelGroupBlock
pub mod ChannelBlock
pub mod SourceBlock
pub mod DataListBlock
pub mod TextBlock
pub mod IdentificationBlock
