-- What the database itself keeps of each table: ranges, keys and references.
use Rattle.std.specs.Prelude.{◌≡◌, ◌≤◌, ℕ, List, []}
use Rattle.std.specs.List.{AllByRecursion}
use Rattle.td_base.specs.Codes.{IsHolderNumber}
use Rattle.td_guarantee.specs.declared.guarantee.Guarantee.{Guarantee}
use Rattle.td_movement.specs.declared.movement.Movement.{Movement}
use Rattle.td_model.specs.declared.holder_row.HolderRow.{HolderRow}
use Rattle.td_table_model.specs.Gathering.{IsApart, IsTextApart, holder_no, no_of, of_key, part, place}
use Rattle.td_table_model.specs.Stored.{AreOfHolders}
use Rattle.td_table_model.specs.Tables.{Keyed, Kept, Tables}

-- holders: their numbers are in range, and no two have one
pub record AreHoldersKept (t : Tables) : Type 0 where
  pub numbers : AllByRecursion (λ (r : HolderRow). IsHolderNumber r.holder) t.holders
  pub apart : IsApart holder_no t.holders

-- guarantees: no two of a holder have one serial, each is of a holder that is there, and its row is without codes
pub record AreGuaranteesKept (t : Tables) : Type 0 where
  pub apart : (H : ℕ) → IsApart place (part H t.guarantees)
  pub owned : AreOfHolders t.holders t.guarantees
  pub without_codes : AllByRecursion (λ (g : Keyed Guarantee). g.row.codes ≡ []) t.guarantees

-- amounts in use: each is at most the reference amount of its guarantee
abbrev pub AreWithinReference : Tables → Type 0
AreWithinReference t = AllByRecursion (λ (k : Keyed Kept). k.row.used ≤ k.row.guarantee.reference) t.kept

-- codes: no two of a guarantee are the same, and each is of a holder that is there
pub record AreCodesKept (t : Tables) : Type 0 where
  pub apart : (H n : ℕ) → IsTextApart (λ (c : Keyed (List ℕ)). c.row) (of_key place n (part H t.codes))
  pub owned : AreOfHolders t.holders t.codes

-- movements: no two of a holder have one serial, nor one LRN, each is of a holder that is there, and its row is without lines
pub record AreMovementsKept (t : Tables) : Type 0 where
  pub apart : (H : ℕ) → IsApart place (part H t.movements)
  pub lrns : (H : ℕ) → IsTextApart (λ (m : Keyed Movement). m.row.lrn) (part H t.movements)
  pub owned : AreOfHolders t.holders t.movements
  pub without_lines : AllByRecursion (λ (m : Keyed Movement). m.row.lines ≡ []) t.movements

-- lines: no two of a movement have one number, and each is of a holder that is there
pub record AreLinesKept (t : Tables) : Type 0 where
  pub apart : (H n : ℕ) → IsApart no_of (of_key place n (part H t.lines))
  pub owned : AreOfHolders t.holders t.lines
