pub mod Named
pub mod Opened
