pub mod Counts
pub mod Calls
pub mod Chaining
mod Slices
