pub mod LawsScanned
pub mod LawsFirst
pub mod LawsCut
pub mod LawsPieces
pub mod LawsRead
pub mod Determined
