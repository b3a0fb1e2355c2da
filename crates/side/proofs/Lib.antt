pub mod LawsPlaces
pub mod LawsHalves
pub mod LawsLevels
pub mod LawsHints
pub mod Determined
