pub mod LawsTakenOff
pub mod Determined
