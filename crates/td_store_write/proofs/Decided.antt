-- What is decided on a command can be written.
use Rattle.std.proofs.Common.{ℤ, ◌≡◌, ℕ, Bool, true, false, List, Option, Some, None, IsSome, refl, sym, ◌∙◌, ap, subst}
use Rattle.std.specs.Prelude.{if◌then◌else◌, IfSome}
use Rattle.std.specs.Option.{option_map}
use Rattle.keyed_rows.specs.Rows.{row_at}
use Rattle.keyed_rows.proofs.Putting.{row_at_has}
use Rattle.td_base.specs.Days.{moment_of}
use Rattle.td_commands.specs.declared.command.Command.{Command}
use Rattle.td_commands.specs.declared.command.Stamped.{Stamped}
use Rattle.td_commands.specs.Commands.{owner_of, IsProper}
use Rattle.td_model.specs.declared.holder_row.HolderRow.{HolderRow}
use Rattle.td_acts.specs.declared.rows.Verdict.{Verdict}
use Rattle.td_model.specs.declared.change.Change.{Change}
use Rattle.td_model.specs.declared.change.Change.TheVariants as change
use Rattle.td_model.specs.Account.{Account, HolderRows, guarantee_by_grn, holder_key, movement_by_mrn}
use Rattle.td_acts.specs.Deciding.{change_in, decision_on}
use Rattle.td_model.specs.Table.{stands}
use Rattle.td_acts.proofs.Accepted.{IsFor}
use Rattle.td_acts.proofs.AcceptedRows.{change_in_is_for, moment_is, nobody_writes}
use Rattle.td_model.specs.Content.{Content, rows_of, account_in, content_after, IsSound}
use Rattle.td_acts.specs.Weighing.{account_for, owner_account, IsDecision}
use Rattle.td_acts.proofs.Carrying.{carries}
use Rattle.td_acts.proofs.Fresh.{account_fresh}
use Rattle.td_table_model.specs.Tables.{Tables, AreTablesOf}
use Rattle.td_table_model.specs.Gathering.{content_of}
use Rattle.td_table_model.specs.Changes.{tables_after, HaveSameRows, HasGuarantee, CanBeWritten, ComesByMove, FollowsMoves}
use Rattle.td_table_model.proofs.Changing.{changes_are_written}

-- the number of a holder's row in what the desk keeps
old_number : (H : ℕ) (c : Content) (old : HolderRow) → (account_in H c).holder ≡ Some old → old.holder ≡ H
old_number H c old is = by_rows (row_at holder_key H c.holders) (row_at_has holder_key H c.holders) is
  where
    by_rows : (o : Option HolderRows) → IfSome o (λ h. holder_key h ≡ H) → option_map (λ (h : HolderRows). h.row) o ≡ Some old → old.holder ≡ H
    by_rows None has is = cc
    by_rows (Some h) has is = let same : h.row ≡ old = cc in subst (λ (r : HolderRow). r.holder ≡ H) same has

-- a holder who has a row has rows
registered_rows : (H : ℕ) (c : Content) (old : HolderRow) → (account_in H c).holder ≡ Some old → IsSome (rows_of H c)
registered_rows H c old is = by_rows (rows_of H c) is
  where
    by_rows : (o : Option HolderRows) → option_map (λ (h : HolderRows). h.row) o ≡ Some old → IsSome o
    by_rows None is = cc
    by_rows (Some h) is = refl

unregistered_rows : (H : ℕ) (c : Content) → (account_in H c).holder ≡ None → rows_of H c ≡ None
unregistered_rows H c is = by_rows (rows_of H c) is
  where
    by_rows : (o : Option HolderRows) → option_map (λ (h : HolderRows). h.row) o ≡ None → o ≡ None
    by_rows None is = refl
    by_rows (Some h) is = cc

-- rows that follow on a holder's can be written
can_be_written : (H : ℕ) (c : Content) (ch : Change) → IsFor c.country H (account_in H c) ch → CanBeWritten c ch
can_be_written H c change.Nothing is = tt
can_be_written H c (change.Registered row) is = subst (λ n. rows_of n c ≡ None) (sym is.number) (unregistered_rows H c is.new)
can_be_written H c (change.Opened row g) is =
    let number : row.holder ≡ H = ap (λ (r : HolderRow). r.holder) is.next ∙ old_number H c is.old is.known in
    subst (λ n. IsSome (rows_of n c)) (sym number) (registered_rows H c is.old is.known)
can_be_written H c (change.Declared row m) is =
    let number : row.holder ≡ H = ap (λ (r : HolderRow). r.holder) is.next ∙ old_number H c is.old is.known in
    subst (λ n. IsSome (rows_of n c)) (sym number) (registered_rows H c is.old is.known)
can_be_written H c (change.Moved row status) is =
    let number : row.holder ≡ H = ap (λ (r : HolderRow). r.holder) is.next ∙ old_number H c is.old is.known in
    subst (λ n. IsSome (rows_of n c)) (sym number) (registered_rows H c is.old is.known)
can_be_written H c (change.TermsSet row terms) is =
    let number : row.holder ≡ H = ap (λ (r : HolderRow). r.holder) is.next ∙ old_number H c is.old is.known in
    subst (λ n. IsSome (rows_of n c)) (sym number) (registered_rows H c is.old is.known)
can_be_written H c (change.CodeAdded row grn code) is =
    let number : row.holder ≡ H = ap (λ (r : HolderRow). r.holder) is.0.next ∙ old_number H c is.0.old is.0.known in
    subst (λ k. HasGuarantee c k grn (λ g. stands code g.codes ≡ false)) (sym number) (record { guarantee = is.1.guarantee; found = is.1.found; holds = is.1.new })
can_be_written H c (change.CodeRemoved row grn code) is =
    let number : row.holder ≡ H = ap (λ (r : HolderRow). r.holder) is.next ∙ old_number H c is.old is.known in
    subst (λ k. HasGuarantee c k grn (λ g. Unit {0})) (sym number) (record { guarantee = is.guarantee; found = is.found; holds = tt })

-- and follow the moves
follow_moves : (H : ℕ) (c : Content) (ch : Change) → IsFor c.country H (account_in H c) ch → FollowsMoves c ch
follow_moves H c change.Nothing is = tt
follow_moves H c (change.Registered row) is = tt
follow_moves H c (change.Opened row g) is = tt
follow_moves H c (change.Declared row m) is = is.accepted
follow_moves H c (change.Moved row status) is =
    let number : row.holder ≡ H = ap (λ (r : HolderRow). r.holder) is.next ∙ old_number H c is.old is.known in
    subst (λ k. ComesByMove (account_in k c).movements status) (sym number) (record { movement = is.movement; found = is.found; move = is.move; leads = is.leads })
follow_moves H c (change.TermsSet row terms) is = tt
follow_moves H c (change.CodeAdded row grn code) is = tt
follow_moves H c (change.CodeRemoved row grn code) is = tt

-- what is decided on a command over its owner's account
pub decided : (c : Content) (at : ℤ) (command : Command) → IsProper command
    → CanBeWritten c (decision_on (owner_account c command) at command).change × FollowsMoves c (decision_on (owner_account c command) at command).change
decided c at command proper = by_owner (owner_of c.country command) refl
  where
    by_owner : (o : Option ℕ) → owner_of c.country command ≡ o → CanBeWritten c (decision_on (account_for o c) at command).change × FollowsMoves c (decision_on (account_for o c) at command).change
    by_owner None none = rw (nobody_writes c.country (moment_of at) command none) (tt, tt)
    by_owner (Some H) own =
        let is = change_in_is_for H (account_in H c) (moment_of at) command own proper (moment_is at) in
        rw (account_fresh H c)
        (can_be_written H c (change_in (moment_of at) (account_in H c) command) is, follow_moves H c (change_in (moment_of at) (account_in H c) command) is)

-- the statements of a decision write it
pub decisions_are_written : (v : Verdict) (old new : Tables) (c : Content) → IsSound c → IsDecision c v → AreTablesOf old c → HaveSameRows (tables_after v.change old) new
    → AreTablesOf new (content_after v.change c) × (content_of new ≡ content_after v.change c)
decisions_are_written v old new c sound is are same =
    let s : Stamped = record { at = is.0; command = is.1 } in
    let after : IsSound (content_after v.change c) = subst (λ ch. IsSound (content_after ch c)) (sym is.3.written) (carries c s sound is.2).sound in
    let can : CanBeWritten c v.change × FollowsMoves c v.change = subst (λ ch. CanBeWritten c ch × FollowsMoves c ch) (sym is.3.written) (decided c is.0 is.1 is.2) in
    changes_are_written v.change old new c sound after can.0 (λ keep. can.1) are same
