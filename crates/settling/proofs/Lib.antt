pub mod LawsOneByOne
pub mod LawsSettling
pub mod LawsOlder
pub mod Determined
