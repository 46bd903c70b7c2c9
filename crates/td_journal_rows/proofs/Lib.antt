mod Plain
mod Readings
mod Written
pub mod Methods
mod Paths
mod Bodies
mod ReadBack
mod Lines
pub mod RowsBack
mod ChangeRows
pub mod OneLine
