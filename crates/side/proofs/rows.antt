pub mod LawsTable
pub mod LawsIndex
pub mod LawsSteps
pub mod LawsShown
pub mod Determined
