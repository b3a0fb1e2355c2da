pub mod LawsMeeting
pub mod LawsWalking
pub mod LawsGiven
pub mod LawsLeft
pub mod LawsEnding
pub mod Determined
