-- Why a file's database is refused, and the names of rules, as a caller of this crate needs them.
pub use Rattle.td_table_model.specs.Rules.{rule_name}
pub use Rattle.td_store_check.specs.declared.fault.OpenFault.{OpenFault}
pub use Rattle.td_store_check.specs.declared.fault.OpenFault.TheVariants.{UnknownVersion, NeedsMigration, OtherCountry, Damaged, Store, NoMemory}
