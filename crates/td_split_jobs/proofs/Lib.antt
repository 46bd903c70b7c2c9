pub mod Contents
pub mod Places
pub mod Batches
pub mod RowLaws
pub mod RequestLaws
