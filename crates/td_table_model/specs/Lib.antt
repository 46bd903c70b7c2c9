pub mod Tables
pub mod Gathering
pub mod Looking
pub mod Listed
pub mod Changes
pub mod Stored
pub mod Rules
pub mod Laws
