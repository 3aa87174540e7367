-- Laws of the layout whose clear ranges the scratch table leaves.
pub mod Clearing
