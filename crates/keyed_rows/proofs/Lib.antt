pub mod Putting
pub mod Places
