pub mod LawsMatched
pub mod Determined
