pub mod Drive
pub mod Machine
pub mod Memory
pub mod Pinned
