pub mod LawsRotated
pub mod LawsShifts
pub mod LawsClosing
