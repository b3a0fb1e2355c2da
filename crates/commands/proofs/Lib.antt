pub mod LawsDone
pub mod LawsCommand
pub mod Determined
