pub use Rattle.ascii_text.specs.Digits
pub use Rattle.td_time.specs.Days
pub use Rattle.td_money.specs.Money
pub use Rattle.counted_io.specs.Counted
pub use Rattle.counted_io.specs.Chains
pub mod Codes
pub mod References
pub mod Kept
