pub mod Determined
pub mod LawsRefills
