pub mod Money
