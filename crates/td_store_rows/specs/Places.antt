-- Where a keyed row stands among others: by its holder's number, and then by its serial.
use Rattle.std.specs.Prelude.{ℕ, ◌==◌, Bool, ◌&&◌, nat_le, nat_lt}
use Rattle.std.specs.Ordering.{nat_cmp, ordering_then}
use Rattle.std.specs.declared.cmp.Ordering.{Ordering}
use Rattle.td_table_model.specs.Gathering.{owner, place}
use Rattle.td_table_model.specs.Tables.{Keyed}

abbrev pub by_place : {R : Type 0} → Keyed R → Keyed R → Ordering
by_place a b = ordering_then (nat_cmp (owner a) (owner b)) (nat_cmp (place a) (place b))

-- a row of a holder with a serial above that one; of a holder with a serial from one on and below another; of a holder with a number
-- above that one
abbrev pub is_after : {R : Type 0} → ℕ → ℕ → Keyed R → Bool
is_after H n r = r.holder == H && nat_lt n r.serial

abbrev pub is_within : {R : Type 0} → ℕ → ℕ → ℕ → Keyed R → Bool
is_within H first end r = r.holder == H && (nat_le first r.serial && nat_lt r.serial end)

abbrev pub is_above : {R : Type 0} → ℕ → Keyed R → Bool
is_above H r = nat_lt H r.holder
