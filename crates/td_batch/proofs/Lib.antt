mod Alike
mod Done
mod Again
pub mod AgainAtDesk
pub mod Told
pub mod AnsweredAtDesk
pub mod RowsRun
