pub mod LawsLineByLine
pub mod LawsCutAnywhere
pub mod LawsFeed
pub mod LawsPrinted
pub mod Determined
