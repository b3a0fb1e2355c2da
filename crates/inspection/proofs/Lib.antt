pub mod LawsInspected
pub mod LawsInspection
pub mod Determined
