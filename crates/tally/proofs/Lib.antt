pub mod LawsParties
pub mod LawsAgree
pub mod LawsLong
pub mod LawsFed
pub mod Determined
