mod Handling
pub mod Served
pub mod Streamed
pub mod Kept
pub mod KeptOver
mod Alone
pub mod Alike
mod ServedConnections
pub mod Private
mod Anyhow
pub mod ConnectionsAlike
