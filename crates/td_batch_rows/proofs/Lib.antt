mod OptionFacts
mod RecordsFacts
mod RowFacts
mod PartFacts
mod Taking
mod AreDeclarations
