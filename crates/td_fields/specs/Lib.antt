pub mod Faults
pub mod BodyFields
pub mod Bodies
