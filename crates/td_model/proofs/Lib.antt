pub mod Joined
pub mod ByKey
pub mod Cover
pub mod Steps
pub mod EachMove
pub mod Differing
pub mod Kept
