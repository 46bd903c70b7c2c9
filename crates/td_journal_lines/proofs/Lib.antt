pub mod Reading
mod Requests
mod Rows
