pub mod Desks
pub mod Jobs
pub mod Piped
pub mod Listening
pub mod Batched
