pub mod Ready
pub mod Followed
mod Kept
