pub mod LawsTaken
pub mod LawsWalk
pub mod Determined
