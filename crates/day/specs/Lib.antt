pub mod Pieces
pub mod Feed
pub mod Turns
