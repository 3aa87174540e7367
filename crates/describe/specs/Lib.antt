-- What the descriptions are told.
pub mod Info
