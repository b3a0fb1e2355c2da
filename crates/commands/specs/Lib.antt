pub mod Cancels
pub mod Sides
