pub mod LawsLentStep
pub mod LawsPromised
pub mod LawsSame
pub mod Determined
