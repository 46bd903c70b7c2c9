pub mod Meanings
pub mod Writing
pub mod Reading
pub mod Typed
pub mod Values
pub mod Walked
pub mod Visited
pub mod Outside
