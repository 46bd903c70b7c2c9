mod PlaceOfLrn
mod Found
pub mod Loading
mod Mapping
mod BySerial
mod Indexed
mod KeptAmounts
pub mod InUse
