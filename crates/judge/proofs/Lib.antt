pub mod LawsJudge
pub mod Determined
