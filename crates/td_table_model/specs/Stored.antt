-- What the database itself keeps of the tables, whatever stands in them: ranges, keys and references.
use Rattle.std.specs.Prelude.{◌≡◌, ℕ, List, [], map, IsSome}
use Rattle.std.specs.List.{AllByRecursion}
use Rattle.std.specs.List.Sorted.{IsPermutation}
use Rattle.keyed_rows.specs.Rows.{row_at}
use Rattle.td_base.specs.Codes.{IsHolderNumber}
use Rattle.td_guarantee.specs.declared.guarantee.Guarantee.{Guarantee}
use Rattle.td_movement.specs.declared.movement.Movement.{Movement}
use Rattle.td_model.specs.declared.holder_row.HolderRow.{HolderRow}
use Rattle.td_table_model.specs.Tables.{Keyed, Tables, KeepAmounts, without_amount}
use Rattle.td_table_model.specs.Gathering.{IsApart, IsTextApart, holder_no, no_of, of_key, owner, part, place}

-- the rows of a table are of holders that are there
abbrev pub AreOfHolders : {X : Type 0} → List HolderRow → List (Keyed X) → Type 0
AreOfHolders holders rows = AllByRecursion (λ r. IsSome (row_at holder_no (owner r) holders)) rows

-- The range of holders' numbers, which the table of holders checks. The keys: a holder's number, a holder's
-- serials of guarantees and of movements, a guarantee's codes, a holder's LRNs, the numbers of a movement's
-- lines. The references: each row is of a holder that is there. A row of a guarantee is without codes, one of a
-- movement without lines. And the rows that keep amounts in use are those of the guarantees.
pub record AreStored (t : Tables) : Type 0 where
  pub numbers : AllByRecursion (λ (r : HolderRow). IsHolderNumber r.holder) t.holders
  pub holders : IsApart holder_no t.holders
  pub guarantees : (H : ℕ) → IsApart place (part H t.guarantees)
  pub codes : (H n : ℕ) → IsTextApart (λ (c : Keyed (List ℕ)). c.row) (of_key place n (part H t.codes))
  pub movements : (H : ℕ) → IsApart place (part H t.movements)
  pub lrns : (H : ℕ) → IsTextApart (λ (m : Keyed Movement). m.row.lrn) (part H t.movements)
  pub lines : (H n : ℕ) → IsApart no_of (of_key place n (part H t.lines))
  pub guarantees_owned : AreOfHolders t.holders t.guarantees
  pub codes_owned : AreOfHolders t.holders t.codes
  pub movements_owned : AreOfHolders t.holders t.movements
  pub lines_owned : AreOfHolders t.holders t.lines
  pub without_codes : AllByRecursion (λ (g : Keyed Guarantee). g.row.codes ≡ []) t.guarantees
  pub without_lines : AllByRecursion (λ (m : Keyed Movement). m.row.lines ≡ []) t.movements
  pub kept : KeepAmounts t → IsPermutation t.guarantees (map without_amount t.kept)
