pub mod LawsTurn
pub mod Determined
pub mod LawsTurns
