pub mod Loaded
pub mod Needed
pub mod Placed
