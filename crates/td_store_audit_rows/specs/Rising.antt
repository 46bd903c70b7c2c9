-- Rows that show integers which rise, as they are shown one after another.
use Rattle.std.specs.Prelude.{◌≡◌, ◌↔◌, ℤ, List, [], ◌∷◌, Bool, IsTrue, Option, Some, None}
use Rattle.sqlite_value.specs.Order.{Row, column}
use Rattle.sqlite_value.specs.declared.value.Value.TheVariants.{Int}
use Rattle.td_store_audit_rows.specs.Ids.{IsAbove}

-- each row shows an integer first, above that of the row before; the first one is above this integer, if there is one, and this is the last
abbrev pub RiseTo : Option ℤ → List Row → Option ℤ → Type 0
RiseTo before [] last = last ≡ before
RiseTo before (r ∷ rows) last = (id : ℤ) × (column r 0 ≡ Int id) × IsAbove before id × RiseTo (Some id) rows last

-- so it is from the first row on
abbrev pub Rise : List Row → Type 0
Rise rows = (last : Option ℤ) × RiseTo None rows last

-- It is told whether the rows rise: exactly where they do. Then the last of their integers is known.
pub record TellsRising (rise : Bool) (last : Option ℤ) (rows : List Row) : Type 0 where
  pub told : IsTrue rise ↔ Rise rows
  pub upto : IsTrue rise → RiseTo None rows last
