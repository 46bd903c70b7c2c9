pub mod Reading
pub mod Numbers
pub mod Replays
pub mod Laws
pub mod Following
