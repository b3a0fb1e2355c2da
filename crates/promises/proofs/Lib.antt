pub mod Promises
pub mod Beyond
pub mod Worked
pub mod Entries
