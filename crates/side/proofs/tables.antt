pub mod LawsCopied
pub mod LawsNumbered
pub mod LawsAnswers
pub mod Determined
