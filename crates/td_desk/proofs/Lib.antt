pub mod Turns
mod Storing
pub mod Weighed
pub mod Calls
pub mod Agreeing
pub mod Leaving
pub mod Releasing
