pub mod Ascending
pub mod Coded
mod Stepping
