pub mod Counted
pub mod Chains
