pub mod Forms
pub mod Lines
pub mod Pieces
pub mod Reading
pub mod Writing
