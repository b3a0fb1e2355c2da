pub mod LawsBound
pub mod LawsLocks
pub mod Determined
