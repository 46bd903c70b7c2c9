pub mod Each
pub mod StoreReads
pub mod MetaMeanings
mod MetaStatements
mod HolderMeanings
mod HolderStatements
mod GuaranteeMeanings
pub mod GuaranteeCells
mod GuaranteeStatements
mod KeptStatements
mod CodeMeanings
mod CodeStatements
mod MovementLists
pub mod MovementMeanings
mod MovementCells
pub mod MovementStatements
pub mod RangeTests
pub mod RowRanges
pub mod MovementSerials
mod Deadlines
mod LineMeanings
mod LineStatements
pub mod Turned
pub mod Chained
pub mod Holding
