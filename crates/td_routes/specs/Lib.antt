pub mod Routes
pub mod Bodies
