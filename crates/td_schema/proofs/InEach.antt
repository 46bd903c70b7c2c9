-- Each layout's tables begin with those that no version replaces, and none has a foreign key with an action.
use Rattle.std.proofs.Common.{◌≡◌, List, true, refl}
use Rattle.sqlite_schema.specs.declared.schema.Index.{Index}
use Rattle.sqlite_schema.specs.declared.schema.Schema.{Schema}
use Rattle.sqlite_schema.specs.declared.schema.Table.{Table}
use Rattle.sqlite_schema.specs.declared.schema.View.{View}
use Rattle.td_schema.specs.Layouts.{schema_of}
use Rattle.td_schema.specs.declared.layout.Layout.{Layout}
use Rattle.td_schema.specs.declared.layout.Layout.TheVariants.{Made1, Made2, Grown2, Made3, Grown3From2, Grown3From1}
use Rattle.td_schema.proofs.Wider.{are_still, wider}

-- what holds of every such schema holds of each layout's
pub in_each : (P : Schema → Type 0)
    → ((more : List Table) (indexes : List Index) (views : List View) → are_still more ≡ true → P (wider more indexes views))
    → (l : Layout) → P (schema_of l)
in_each P holds Made1 = holds _ _ _ refl
in_each P holds Made2 = holds _ _ _ refl
in_each P holds Grown2 = holds _ _ _ refl
in_each P holds Made3 = holds _ _ _ refl
in_each P holds Grown3From2 = holds _ _ _ refl
in_each P holds Grown3From1 = holds _ _ _ refl
