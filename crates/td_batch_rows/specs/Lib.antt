pub mod Rows
pub mod Acts
pub mod Declarations
