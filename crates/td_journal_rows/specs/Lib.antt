pub mod Requests
pub mod Rows
