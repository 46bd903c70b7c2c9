pub mod Results
pub mod Runs
pub mod Again
pub mod Laws
