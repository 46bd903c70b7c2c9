pub mod Segments
pub mod Sound
pub mod Routers
pub mod Taken
