pub mod Codes
pub mod Terms
pub mod Usage
pub mod Laws
