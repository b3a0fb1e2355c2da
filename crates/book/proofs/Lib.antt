pub mod LawsRecord
pub mod LawsStep
pub mod LawsWork
pub mod Determined
