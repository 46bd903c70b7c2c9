pub use Rattle.ascii_text.proofs.Decided
mod Readers
mod Filled
mod Sums
mod Ascii
mod ReferenceParts
mod Owners
pub mod Checked
mod Identifiers
mod Numbered
pub mod MadeReferences
mod Written
mod OwnedReferences
mod Printed
