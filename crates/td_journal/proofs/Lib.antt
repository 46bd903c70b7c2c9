pub mod Prefixes
mod Growing
mod Streamed
mod Served
mod Batched
mod Parts
