pub mod LawsReady
pub mod LawsEntered
pub mod Determined
