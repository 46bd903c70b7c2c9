pub mod InUse
pub mod Put
pub mod Filled
pub mod Moved
pub mod LinesMoved
pub mod Grown
pub mod Upgraded
