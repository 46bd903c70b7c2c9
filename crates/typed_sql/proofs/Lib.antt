pub mod Lists
pub mod Ids
pub mod Queries
pub mod Steps
pub mod Effects
pub mod Answering
pub mod Leaving
pub mod OnlyRead
pub mod TypedRows
pub mod Ordered
pub mod Fetched
pub mod FetchedFirst
pub mod Columns
pub mod Left
mod Answered
mod Asked
mod Emptied
pub mod TypedWhere
mod First
mod Shown
pub mod VisitedTyped
pub mod Outside
