mod Written
mod Following
mod Decided
mod Changed
mod AsSaid
mod Fitting
pub mod After
mod Made
