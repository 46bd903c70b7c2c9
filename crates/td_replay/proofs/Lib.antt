mod FirstLines
mod Followed
mod Counting
mod RowsDone
pub mod Rebuilding
