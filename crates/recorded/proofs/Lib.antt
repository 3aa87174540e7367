-- Recordings and the Rust's answers, as tools/recorded.py writes them.
pub mod ConversionPastEnd
pub mod DataPastEndThenGroup
pub mod OddDl000
pub mod PathChains
pub mod PathInsideId
pub mod PathLists
pub mod Rand00192
pub mod Rand00222
pub mod Rand00295
pub mod Rand00333
pub mod RecordWordsVisitedGroup
pub mod SevenLinks
pub mod ShortNameVisited
pub mod TargetPlus4
pub mod TextAddressPlus24Fits
