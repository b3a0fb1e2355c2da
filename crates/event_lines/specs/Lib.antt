pub mod Ended
pub mod Forms
