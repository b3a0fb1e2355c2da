pub mod LawsPlaced
