-- How the code comes to the model's verdict: what was loaded for it, and what an accepted command changes.
use Rattle.std.specs.Prelude.{◌≡◌, ℕ, ℤ, ◌+◌, List, map, find, Option, Some, None, IfSome, if◌then◌else◌}
use Rattle.std.specs.List.{AllByRecursion}
use Rattle.std.specs.Option.{option_map}
use Rattle.std.specs.Str.{bytes_eq}
use Rattle.td_base.specs.Days.{day_of_moment, moment_of}
use Rattle.td_base.specs.References.{grn_text, mrn_text}
use Rattle.td_guarantee.specs.declared.guarantee.Guarantee.{Guarantee}
use Rattle.td_guarantee.specs.Terms.{without_codes}
use Rattle.td_guarantee.specs.Usage.{used_on}
use Rattle.td_movement.specs.Movements.{without_lines}
use Rattle.td_movement.specs.declared.state.State.TheVariants.{Cancelled, Released, Enquired, Arrived, WrittenOff}
use Rattle.td_model.specs.declared.holder_row.HolderRow.{HolderRow}
use Rattle.td_acts.specs.declared.rows.Loaded.{Loaded}
use Rattle.td_model.specs.declared.change.Change.{Change}
use Rattle.td_model.specs.declared.change.Change.TheVariants as change
use Rattle.td_acts.specs.declared.rows.Verdict.{Verdict}
use Rattle.td_commands.specs.declared.command.Command.{Command}
use Rattle.td_commands.specs.declared.command.Command.TheVariants.{Register, OpenGuarantee, Amend, Revoke, Ie015, Ie014, AddCode, RemoveCode, Ie029, Ie007, Ie018, Ie045, Ie140}
use Rattle.td_model.specs.Account.{Account, entry_in, guarantee_by_grn, movement_by_mrn, movement_by_lrn}
use Rattle.td_commands.specs.Commands.{Need, nothing, lodging, movement, status, release, all_movements, guarantee, all_guarantees, need_of}
use Rattle.td_commands.specs.Lines.{line_of}
use Rattle.td_model.specs.Changes.{new_state, no_terms}
use Rattle.td_model.specs.Effects.{year2_at, end_after, judged, new_holder_row, new_guarantee, new_movement}
use Rattle.td_model.specs.Table.{listed, said, said_at}
use Rattle.td_model.specs.Machine.{is_accepted_at}

-- a guarantee that was loaded, and the amount in use on it where the command asks for that
abbrev pub entry_by_grn : List ℕ → List (Guarantee × ℕ) → Option (Guarantee × ℕ)
entry_by_grn grn entries = find (λ e. bytes_eq e.0.grn grn) entries

-- its terms alone, without codes, and the amount in use
abbrev pub terms_alone : Guarantee × ℕ → Guarantee × ℕ
terms_alone e = (without_codes e.0, e.1)

-- What is needed is found in what was loaded as it is in the account, movements without lines and guarantees without
-- codes where none are needed. Of all movements, what a list shows of each is what was loaded.
abbrev pub IsLookedUp : Account → Need → Loaded → Type 0
IsLookedUp account nothing loaded = Unit {0}
IsLookedUp account (lodging lrn lines) loaded =
    (movement_by_lrn lrn loaded.movements.items ≡ movement_by_lrn lrn account.movements)
    × AllByRecursion (λ l. option_map (λ e. e.0) (entry_by_grn l.0.grn loaded.guarantees.items)
    ≡ guarantee_by_grn l.0.grn account.guarantees) lines
IsLookedUp account (movement mrn) loaded =
    movement_by_mrn mrn loaded.movements.items ≡ movement_by_mrn mrn account.movements
IsLookedUp account (status mrn) loaded =
    movement_by_mrn mrn loaded.movements.items ≡ option_map without_lines (movement_by_mrn mrn account.movements)
IsLookedUp account (release mrn) loaded =
    (movement_by_mrn mrn loaded.movements.items ≡ movement_by_mrn mrn account.movements)
    × IfSome (movement_by_mrn mrn account.movements) (λ m.
    AllByRecursion (λ l. entry_by_grn l.grn loaded.guarantees.items ≡ option_map terms_alone (entry_in account l.grn)) m.lines)
IsLookedUp account all_movements loaded = loaded.listed.items ≡ map listed account.movements
IsLookedUp account (guarantee grn) loaded = entry_by_grn grn loaded.guarantees.items ≡ entry_in account grn
IsLookedUp account all_guarantees loaded =
    loaded.guarantees.items ≡ map (λ g. (g, used_on g.grn account.movements)) account.guarantees

-- what was loaded is what is needed of the account, and the holder's row
pub record IsLoaded (account : Account) (need : Need) (loaded : Loaded) : Type 0 where
  pub country : loaded.country ≡ account.country
  pub holder : loaded.holder ≡ account.holder
  pub things : IsLookedUp account need loaded

-- a change of a registered holder's rows
abbrev pub if_row : Option HolderRow → (HolderRow → Change) → Change
if_row None rows_for = change.Nothing
if_row (Some row) rows_for = rows_for row

-- the holder's row with the moment of a change
abbrev pub touched : HolderRow → ℕ → HolderRow
touched row t = record row { last_at = t }

-- what the command changes where it is accepted
abbrev pub change_of : Account → ℕ → Command → Change
change_of account t (Register holder eori) = change.Registered (new_holder_row holder eori t)
change_of account t (OpenGuarantee holder reference cover code) = if_row account.holder (λ row.
    let n = row.grn_count + 1 in
    change.Opened (record row { last_at = t; grn_count = n })
    (new_guarantee (grn_text (year2_at t) account.country holder n) reference cover code))
change_of account t (Amend grn reference cover) = if_row account.holder (λ row.
    change.TermsSet (touched row t)
    (record (no_terms grn) { reference = Some reference; cover = Some cover }))
change_of account t (Revoke grn) = if_row account.holder (λ row.
    change.TermsSet (touched row t)
    (record (no_terms grn) { ends = Some (end_after (day_of_moment t)) }))
change_of account t (Ie015 holder lrn departure destination lines) = if_row account.holder (λ row.
    let n = row.mrn_count + 1 in
    change.Declared (record row { last_at = t; mrn_count = n })
    (new_movement (mrn_text (year2_at t) account.country holder n) lrn departure destination
    (day_of_moment t) (map line_of lines)))
change_of account t (Ie014 holder mrn) = if_row account.holder (λ row.
    change.Moved (touched row t) (new_state mrn Cancelled))
change_of account t (AddCode holder grn code) = if_row account.holder (λ row.
    change.CodeAdded (touched row t) grn code)
change_of account t (RemoveCode holder grn code) = if_row account.holder (λ row.
    change.CodeRemoved (touched row t) grn code)
change_of account t (Ie029 mrn limit) = if_row account.holder (λ row.
    change.Moved (touched row t) (record (new_state mrn Released) { limit = Some limit }))
change_of account t (Ie007 mrn office) = if_row account.holder (λ row.
    change.Moved (touched row t)
    (record (new_state mrn Arrived) { arrival = Some (day_of_moment t); actual = Some office }))
change_of account t (Ie018 mrn result) = if_row account.holder (λ row.
    change.Moved (touched row t) (new_state mrn (judged result)))
change_of account t (Ie045 mrn cause) = if_row account.holder (λ row.
    change.Moved (touched row t) (new_state mrn WrittenOff))
change_of account t (Ie140 mrn) = if_row account.holder (λ row.
    change.Moved (touched row t) (new_state mrn Enquired))
change_of account t command = change.Nothing

-- that change where it is accepted, else nothing
abbrev pub change_at : Account → ℕ → Command → Change
change_at account t command =
    if is_accepted_at account t command then change_of account t command else change.Nothing

abbrev pub change_in : Option ℕ → Account → Command → Change
change_in None account command = change.Nothing
change_in (Some t) account command = change_at account t command

-- the model's verdict, and the rows to write for it
abbrev pub decision_on : Account → ℤ → Command → Verdict
decision_on account at command =
    record { said = said account at command; change = change_in (moment_of at) account command }

-- the verdict at a moment
abbrev pub decision_at : Account → ℕ → Command → Verdict
decision_at account t command =
    record { said = said_at account t command; change = change_at account t command }

-- the code's verdict is the model's, over any account of which so much was loaded
abbrev pub IsVerdict : Loaded → ℤ → Command → Verdict → Type 0
IsVerdict loaded at command v =
    (account : Account) → IsLoaded account (need_of command) loaded → v ≡ decision_on account at command

-- the same at a moment
abbrev pub IsVerdictAt : Loaded → ℕ → Command → Verdict → Type 0
IsVerdictAt loaded t command v =
    (account : Account) → IsLoaded account (need_of command) loaded → v ≡ decision_at account t command
