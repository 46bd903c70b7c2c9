pub mod Gathered
pub mod Rows
pub mod RowLaws
pub mod Requests
pub mod RequestLaws
