mod Equal
mod Unique
mod Ruled
mod AmountColumn
mod Parents
mod Checked
mod HoldersKept
mod Keyed
mod Tables
mod FewKeys
mod FewLines
mod Live
pub mod Reading
mod HoldersTold
mod GuaranteesKept
mod MovementsKept
mod Walking
mod Sums
mod Totalled
pub mod Counted
mod InUse
mod UseKept
mod CoverKept
mod AmountsKept
mod Serials
mod RowRanges
mod HandedOn
mod Runs
mod Tells
mod Meanings
mod Ordering
mod Permuted
mod Filters
mod PlaceRanges
mod LineRanges
mod CodeRanges
mod PartsOfHolders
mod Told
mod RangesTold
mod OfficeRow
mod FirstRule
mod TypedFor
mod CoveredByUse
mod AskedRules
pub mod AskedHolder
pub mod AskedParts
pub mod Walked
mod KeptByHolders
