mod Found
mod ReadOnce
mod Reading
mod Whole
mod WithUse
mod Owner
pub mod Places
mod Behind
mod InRanges
pub mod Listing
