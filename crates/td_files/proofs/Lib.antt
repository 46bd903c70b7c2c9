pub mod Opening
pub mod Copying
