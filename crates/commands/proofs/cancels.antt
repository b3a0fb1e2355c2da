pub mod LawsCancelled
pub mod LawsCancelDone
pub mod Determined
