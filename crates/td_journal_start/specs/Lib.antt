pub mod Texts
pub mod Lines
pub mod Rows
pub mod Tails
pub mod Faults
pub mod Starts
pub mod Begun
pub mod Laws
