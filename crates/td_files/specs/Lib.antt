pub mod Closed
pub mod Faults
pub mod Found
pub mod Upgraded
pub mod Extracted
pub mod Joined
