-- What a change of one holder's rows does to them: these shapes stand for all commands.
use Rattle.std.specs.Prelude.{ℕ, List, [], ◌∷◌, ◌++◌, map, Option, Some, None, Bool, true, false, unwrap_or}
use Rattle.std.specs.Option.{option_or}
use Rattle.td_guarantee.specs.declared.guarantee.Guarantee.{Guarantee}
use Rattle.td_movement.specs.declared.movement.Movement.{Movement}
use Rattle.td_movement.specs.declared.state.State.{State}
use Rattle.td_model.specs.declared.holder_row.HolderRow.{HolderRow}
use Rattle.td_model.specs.declared.change.NewStatus.{NewStatus}
use Rattle.td_model.specs.declared.change.Change.{Change}
use Rattle.td_model.specs.declared.change.Change.TheVariants.{Nothing, Registered, Opened, Declared, Moved, TermsSet, CodeAdded, CodeRemoved}
use Rattle.td_model.specs.declared.change.NewTerms.{NewTerms}
use Rattle.td_model.specs.Account.{Account, HolderRows, at_grn, at_mrn, coded, uncoded}

-- there is something to write
abbrev pub is_change : Change → Bool
is_change Nothing = false
is_change (Registered row) = true
is_change (Opened row guarantee) = true
is_change (Declared row movement) = true
is_change (Moved row status) = true
is_change (TermsSet row terms) = true
is_change (CodeAdded row grn code) = true
is_change (CodeRemoved row grn code) = true

-- the holder's row in a change
abbrev pub row_in : Change → Option HolderRow
row_in Nothing = None
row_in (Registered row) = Some row
row_in (Opened row guarantee) = Some row
row_in (Declared row movement) = Some row
row_in (Moved row status) = Some row
row_in (TermsSet row terms) = Some row
row_in (CodeAdded row grn code) = Some row
row_in (CodeRemoved row grn code) = Some row

-- nothing new of a guarantee's terms
abbrev pub no_terms : List ℕ → NewTerms
no_terms grn = record { grn = grn; reference = None; cover = None; ends = None }

-- the guarantee with new terms
abbrev pub with_terms : NewTerms → Guarantee → Guarantee
with_terms terms g = record g {
  reference = unwrap_or terms.reference g.reference;
  cover = unwrap_or terms.cover g.cover;
  ends = option_or terms.ends g.ends;
}

-- what a change makes of a guarantee: terms and codes are said of the one that it names
abbrev pub guarantee_after : Change → Guarantee → Guarantee
guarantee_after (TermsSet row terms) = at_grn terms.grn (with_terms terms)
guarantee_after (CodeAdded row grn code) = at_grn grn (coded code)
guarantee_after (CodeRemoved row grn code) = at_grn grn (uncoded code)
guarantee_after change = λ g. g

-- the guarantees after a change: an opened one stands behind the others
abbrev pub guarantees_after : Change → List Guarantee → List Guarantee
guarantees_after Nothing guarantees = guarantees
guarantees_after (Registered row) guarantees = guarantees
guarantees_after (Opened row guarantee) guarantees = guarantees ++ guarantee ∷ []
guarantees_after (Declared row movement) guarantees = guarantees
guarantees_after (Moved row status) guarantees = guarantees
guarantees_after (TermsSet row terms) guarantees = map (guarantee_after (TermsSet row terms)) guarantees
guarantees_after (CodeAdded row grn code) guarantees = map (guarantee_after (CodeAdded row grn code)) guarantees
guarantees_after (CodeRemoved row grn code) guarantees = map (guarantee_after (CodeRemoved row grn code)) guarantees

-- a state with which no day and no office come
abbrev pub new_state : List ℕ → State → NewStatus
new_state mrn state = record { mrn = mrn; state = state; limit = None; arrival = None; actual = None }

-- the movement in a new state, with the days and the office that come with it
abbrev pub with_status : NewStatus → Movement → Movement
with_status status m = record m {
  state = status.state;
  limit = option_or status.limit m.limit;
  arrival = option_or status.arrival m.arrival;
  actual = option_or status.actual m.actual;
}

-- the movement in its new state, where it is the one that has moved
abbrev pub moved : NewStatus → Movement → Movement
moved status = at_mrn status.mrn (with_status status)

-- the movements after a change: a declared one stands behind the others, and one that has moved in its place
abbrev pub movements_after : Change → List Movement → List Movement
movements_after Nothing movements = movements
movements_after (Registered row) movements = movements
movements_after (Opened row guarantee) movements = movements
movements_after (Declared row movement) movements = movements ++ movement ∷ []
movements_after (Moved row status) movements = map (moved status) movements
movements_after (TermsSet row terms) movements = movements
movements_after (CodeAdded row grn code) movements = movements
movements_after (CodeRemoved row grn code) movements = movements

-- a registered holder's rows after a change
abbrev pub rows_after : Change → HolderRows → HolderRows
rows_after change rows = record {
  row = unwrap_or (row_in change) rows.row;
  guarantees = guarantees_after change rows.guarantees;
  movements = movements_after change rows.movements;
}

-- the account after a change
abbrev pub account_after : Change → Account → Account
account_after change account = record account {
  holder = option_or (row_in change) account.holder;
  guarantees = guarantees_after change account.guarantees;
  movements = movements_after change account.movements;
}

-- the rows that stand already, or those with which a holder of this row begins
abbrev pub rows_or_new : HolderRow → Option HolderRows → HolderRows
rows_or_new row None = record { row = row; guarantees = []; movements = [] }
rows_or_new row (Some rows) = rows
