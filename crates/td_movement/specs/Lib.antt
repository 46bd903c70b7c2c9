pub mod States
pub mod Status
pub mod Lines
pub mod Movements
