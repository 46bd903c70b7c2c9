pub mod Journaling
pub mod Following
pub mod Kept
pub mod Standby
