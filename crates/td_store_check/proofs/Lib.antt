pub mod Begins
mod Judged
mod Named
