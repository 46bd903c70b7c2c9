pub mod Kept
pub mod Laws
pub mod Looked
pub mod Visits
pub mod Standing
pub mod Pulled
