pub mod Redo
pub mod Crashes
pub mod Laws
pub mod Boundary
pub mod Replies
pub mod Second
pub mod Endings
pub mod SentAgain
