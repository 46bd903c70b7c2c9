-- Keyed rows with serials in a range.
use Rattle.std.specs.Prelude.{ℕ, ◌&&◌, List, filter, nat_le, nat_lt}
use Rattle.td_table_model.specs.Gathering.{place}
use Rattle.td_table_model.specs.Tables.{Keyed}

-- those with serials below one
abbrev pub rows_below : {R : Type 0} → ℕ → List (Keyed R) → List (Keyed R)
rows_below n rows = filter (λ r. nat_lt (place r) n) rows

-- those from one on and below another
abbrev pub rows_between : {R : Type 0} → ℕ → ℕ → List (Keyed R) → List (Keyed R)
rows_between first end rows = filter (λ r. nat_le first (place r) && nat_lt (place r) end) rows
