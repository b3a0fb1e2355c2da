pub mod LawsDecimal
pub mod LawsCarried
