pub mod Journal
pub mod Texts
pub mod Journaled
pub mod Growth
pub mod Parts
