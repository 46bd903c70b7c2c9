-- What the statements of each change do to the tables: one INSERT a new row, one UPDATE a row that changes, one
-- DELETE a row that goes.
use Rattle.std.specs.Prelude.{◌≡◌, ℕ, ◌+◌, ◌-◌, ◌==◌, Bool, false, ◌&&◌, not, if◌then◌else◌, List, ◌∷◌, ◌++◌, map, filter, Some, None, IsSome}
use Rattle.std.specs.List.Sorted.{IsPermutation}
use Rattle.std.specs.Str.{bytes_eq}
use Rattle.td_guarantee.specs.declared.guarantee.Guarantee.{Guarantee}
use Rattle.td_movement.specs.declared.movement.Movement.{Movement}
use Rattle.td_movement.specs.declared.moves.Move.{Move}
use Rattle.td_movement.specs.declared.state.State.{State}
use Rattle.td_movement.specs.declared.state.State.TheVariants.{Accepted, Released, WrittenOff}
use Rattle.td_movement.specs.States.{state_after}
use Rattle.td_model.specs.declared.holder_row.HolderRow.{HolderRow}
use Rattle.td_model.specs.declared.change.NewStatus.{NewStatus}
use Rattle.td_model.specs.declared.change.NewTerms.{NewTerms}
use Rattle.td_model.specs.declared.change.Change.{Change}
use Rattle.td_model.specs.declared.change.Change.TheVariants.{Nothing, Registered, Opened, Declared, Moved, TermsSet, CodeAdded, CodeRemoved}
use Rattle.td_model.specs.Account.{at_grn, guarantee_by_grn, movement_by_mrn}
use Rattle.td_model.specs.Changes.{with_terms, moved}
use Rattle.td_model.specs.Table.{stands}
use Rattle.td_model.specs.Content.{Content, account_in, rows_of}
use Rattle.td_table_model.specs.Tables.{Keyed, Kept, Tables, KeepAmounts, guarantee_row, guarantee_no, with_amount, without_amount, code_row, code_rows, movement_row, line_rows}
use Rattle.td_table_model.specs.Looking.{amount_between, movement_no}

-- the holder's row is set anew
abbrev pub with_row : HolderRow → HolderRow → HolderRow
with_row row r = if r.holder == row.holder then row else r

-- the state of the holder's movement with an MRN is set anew
abbrev pub with_status_of : ℕ → NewStatus → Keyed Movement → Keyed Movement
with_status_of H status r = if r.holder == H then record r { row = moved status r.row } else r

-- the terms of the holder's guarantee with a GRN are set anew
abbrev pub with_terms_of : ℕ → NewTerms → Keyed Guarantee → Keyed Guarantee
with_terms_of H terms r =
    if r.holder == H then record r { row = at_grn terms.grn (with_terms terms) r.row } else r

-- the same of a row that keeps an amount, which stays
abbrev pub with_kept_terms_of : ℕ → NewTerms → Keyed Kept → Keyed Kept
with_kept_terms_of H terms k = with_amount k.row.used (with_terms_of H terms (without_amount k))

-- An amount in use, after a movement with so many cents on the guarantee came into a state: they are taken up where it is
-- released, and given back where it is written off.
abbrev pub used_after : State → ℕ → ℕ → ℕ
used_after Released cents used = used + cents
used_after WrittenOff cents used = used - cents
used_after state cents used = used

-- the row of a guarantee of the holder's with its amount after the holder's movement m came into a state
abbrev pub with_use_after : ℕ → ℕ → State → Tables → Keyed Kept → Keyed Kept
with_use_after H m state t k =
    if k.holder == H then with_amount (used_after state (amount_between H m k.serial t) k.row.used) (without_amount k) else k

-- the row of a code of the holder's guarantee n
abbrev pub is_code_of : ℕ → ℕ → List ℕ → Keyed (List ℕ) → Bool
is_code_of H n code r = r.holder == H && (r.serial == n && bytes_eq r.row code)

-- The tables after the statements of a change. A new row stands under the count in the holder's row, a code
-- under the serial in the GRN. Nothing is in use yet on a new guarantee.
abbrev pub tables_after : Change → Tables → Tables
tables_after Nothing t = t
tables_after (Registered row) t = record t { holders = row ∷ t.holders }
tables_after (Opened row guarantee) t = record t {
  holders = map (with_row row) t.holders;
  guarantees = guarantee_row row.holder (row.grn_count, guarantee) ∷ t.guarantees;
  kept = with_amount 0 (guarantee_row row.holder (row.grn_count, guarantee)) ∷ t.kept;
  codes = code_rows row.holder (row.grn_count, guarantee) ++ t.codes;
}
tables_after (Declared row movement) t = record t {
  holders = map (with_row row) t.holders;
  movements = movement_row row.holder (row.mrn_count, movement) ∷ t.movements;
  lines = line_rows t.country row.holder (row.mrn_count, movement) ++ t.lines;
}
tables_after (Moved row status) t = record t {
  holders = map (with_row row) t.holders;
  movements = map (with_status_of row.holder status) t.movements;
  kept = map (with_use_after row.holder (movement_no t.country status.mrn) status.state t) t.kept;
}
tables_after (TermsSet row terms) t = record t {
  holders = map (with_row row) t.holders;
  guarantees = map (with_terms_of row.holder terms) t.guarantees;
  kept = map (with_kept_terms_of row.holder terms) t.kept;
}
tables_after (CodeAdded row grn code) t = record t {
  holders = map (with_row row) t.holders;
  codes = code_row row.holder (guarantee_no t.country grn) code ∷ t.codes;
}
tables_after (CodeRemoved row grn code) t = record t {
  holders = map (with_row row) t.holders;
  codes = filter (λ r. not (is_code_of row.holder (guarantee_no t.country grn) code r)) t.codes;
}

-- the same version and country, and in each table the same rows, in any order, with the same amounts where they are kept
pub record HaveSameRows (t new : Tables) : Type 0 where
  pub version : new.version ≡ t.version
  pub country : new.country ≡ t.country
  pub holders : IsPermutation t.holders new.holders
  pub guarantees : IsPermutation t.guarantees new.guarantees
  pub kept : KeepAmounts t → IsPermutation t.kept new.kept
  pub codes : IsPermutation t.codes new.codes
  pub movements : IsPermutation t.movements new.movements
  pub lines : IsPermutation t.lines new.lines

-- the holder has a guarantee with this GRN, of which something holds
pub record HasGuarantee (c : Content) (H : ℕ) (grn : List ℕ) (Holds : Guarantee → Type 0) : Type 0 where
  pub guarantee : Guarantee
  pub found : guarantee_by_grn grn (account_in H c).guarantees ≡ Some guarantee
  pub holds : Holds guarantee

-- What a change asks of the content so that its statements write it: a new holder's number is free, any other
-- change is of a registered holder, and a code is put to a guarantee of the holder's that hasn't got it, or
-- taken from one.
abbrev pub CanBeWritten : Content → Change → Type 0
CanBeWritten c Nothing = Unit {0}
CanBeWritten c (Registered row) = rows_of row.holder c ≡ None
CanBeWritten c (Opened row guarantee) = IsSome (rows_of row.holder c)
CanBeWritten c (Declared row movement) = IsSome (rows_of row.holder c)
CanBeWritten c (Moved row status) = IsSome (rows_of row.holder c)
CanBeWritten c (TermsSet row terms) = IsSome (rows_of row.holder c)
CanBeWritten c (CodeAdded row grn code) = HasGuarantee c row.holder grn (λ g. stands code g.codes ≡ false)
CanBeWritten c (CodeRemoved row grn code) = HasGuarantee c row.holder grn (λ g. Unit {0})

-- one of the movements has this MRN, and a move leads from its state to the new one
pub record ComesByMove (movements : List Movement) (status : NewStatus) : Type 0 where
  pub movement : Movement
  pub found : movement_by_mrn status.mrn movements ≡ Some movement
  pub move : Move
  pub leads : state_after movement.state move ≡ Some status.state

-- What a change asks beside that where amounts in use are kept: a movement that is declared is accepted, and one whose
-- state is set anew comes into it by a move.
abbrev pub FollowsMoves : Content → Change → Type 0
FollowsMoves c (Declared row movement) = movement.state ≡ Accepted
FollowsMoves c (Moved row status) = ComesByMove (account_in row.holder c).movements status
FollowsMoves c change = Unit {0}
