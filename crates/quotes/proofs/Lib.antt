pub mod LawsQuoteLeaves
pub mod Determined
