pub mod LawsEventReader
pub mod Determined
