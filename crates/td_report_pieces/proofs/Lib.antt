mod Taking
mod Chains
mod Ending
pub mod Folding
pub mod Begun
pub mod Reporting
