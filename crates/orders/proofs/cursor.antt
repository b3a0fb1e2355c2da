pub mod LawsAhead
pub mod LawsParts
