pub mod Between
pub mod Laws
pub mod Copied
pub mod Extracted
