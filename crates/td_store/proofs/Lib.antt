pub mod Acknowledged
mod Calls
pub mod Holding
mod Listed
mod Leaving
mod Refusing
mod Visiting
mod Looking
mod Stepping
mod Walked
