pub mod Raw
mod Meanings
mod Shown
mod Rising
mod Forms
mod Fields
mod ReadRows
mod Telling
mod NextHolder
mod Chained
pub mod Identities
pub mod ReadByRules
pub mod FoundHolders
mod Placed
mod Named
mod EitherForm
