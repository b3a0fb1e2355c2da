pub mod LawsReports
pub mod Determined
