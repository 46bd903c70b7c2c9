-- What holds of each command, case by case: all that a further command adds to the proofs of the model.
use Rattle.std.proofs.Common.{◌≡◌, ℕ, ◌+◌, ◌<◌, true, List, length, ◌++◌, Option, Some, None, refl, ◌∙◌, ap, subst, arith, inl}
use Rattle.std.specs.Prelude.{map, not, nat_lt, nat_le}
use Rattle.std.proofs.lemmas.Bool.{false≢true}
use Rattle.std.proofs.lemmas.Bool.Decides.{nat_tests}
use Rattle.std.proofs.lemmas.List.{append-nil}
use Rattle.std.proofs.Math.Nat.{add-zero}
use Rattle.td_base.specs.Days.{day_of_moment, IsMoment}
use Rattle.td_base.specs.References.{grn_text, mrn_text}
use Rattle.td_guarantee.specs.declared.guarantee.Guarantee.{Guarantee}
use Rattle.td_movement.specs.declared.movement.Movement.{Movement}
use Rattle.td_model.specs.declared.holder_row.HolderRow.{HolderRow}
use Rattle.td_commands.specs.declared.command.Command.{Command}
use Rattle.td_commands.specs.declared.command.Command.TheVariants.{Register, OpenGuarantee, Amend, Revoke, Ie015, Ie014, AddCode, RemoveCode, Ie029, Ie007, Ie018, Ie045, Ie140, SeeHolder, SeeMovement, SeeMovements, SeeGuarantee, SeeGuarantees}
use Rattle.td_movement.specs.States.{is_counting}
use Rattle.td_movement.specs.Status.{HasArrived, HasDaysOf}
use Rattle.td_movement.specs.declared.moves.Move.TheVariants.{Cancel, Release, Arrive, Judge, WriteOff, Enquire}
use Rattle.td_movement.specs.declared.state.Control.{Control}
use Rattle.td_movement.specs.declared.state.Control.TheVariants.{A1, A2, B1}
use Rattle.td_movement.specs.declared.state.State.{State}
use Rattle.td_movement.specs.declared.state.State.TheVariants.{Cancelled, Released, Enquired, Arrived, WrittenOff}
use Rattle.td_guarantee.specs.Usage.{used_on}
use Rattle.td_commands.specs.declared.said.Refusal.TheVariants.{NoHolder, NoMovement, NoGuarantee, BelowUse, CodeKnown, CodesFull, NoCode, LastCode, LimitDate}
use Rattle.td_model.specs.Account.{Account, entry_in, guarantee_by_grn, movement_by_lrn, movement_by_mrn}
use Rattle.td_model.specs.Machine.{is_accepted_at}
use Rattle.td_model.specs.Book.{eori_after, account_made}
use Rattle.td_model.specs.Effects.{year2_at, openings, declarations, opened_by, declared_by, guarantee_said, movement_said, judged, greatest_grn_given, greatest_mrn_given}
use Rattle.td_commands.specs.Commands.{owner_of, IsProper}
use Rattle.td_commands.specs.Lines.{line_of}
use Rattle.td_model.specs.Declaring.{first_refusal, has_contents, first_uncovered}
use Rattle.td_model.specs.Changes.{account_after, is_change, with_status, new_state}
use Rattle.td_acts.specs.Deciding.{change_of}
use Rattle.td_acts.proofs.Accepted.{IsFor, opened_facts, lodged_facts, day_is, one_code, lines_kept, named_if_fine, moved_facts, named_facts, passed, lines_passed, end_is, codes_with, codes_without}
use Rattle.td_model.specs.Table.{stands}
use Rattle.td_acts.proofs.Covering.{covered_when_released}
use Rattle.td_model.proofs.EachMove.{cancelled_from, released_from, arrived_from, judged_from, written_off_from, enquired_from}
use Rattle.td_model.proofs.Steps.{map-id, no_more_moved}
use Rattle.td_guarantee.specs.Codes.{most_codes}

-- where nobody is registered, only a registration is accepted
pub accepted_unregistered : (country : List ℕ) (gs : List Guarantee) (ms : List Movement) (t : ℕ) (command : Command)
    → is_accepted_at (record { country = country; holder = None; guarantees = gs; movements = ms }) t command ≡ true
    → (h : ℕ) × (eori : List ℕ) × (command ≡ Register h eori)
accepted_unregistered country gs ms t (Register h eori) accepted = (h, eori, refl)
accepted_unregistered country gs ms t (OpenGuarantee h reference cover code) accepted = cc
accepted_unregistered country gs ms t (Amend grn reference cover) accepted = cc
accepted_unregistered country gs ms t (Revoke grn) accepted = cc
accepted_unregistered country gs ms t (Ie015 h lrn departure destination lines) accepted = cc
accepted_unregistered country gs ms t (Ie014 h mrn) accepted = cc
accepted_unregistered country gs ms t (AddCode h grn code) accepted = cc
accepted_unregistered country gs ms t (RemoveCode h grn code) accepted = cc
accepted_unregistered country gs ms t (Ie029 mrn limit) accepted = cc
accepted_unregistered country gs ms t (Ie007 mrn office) accepted = cc
accepted_unregistered country gs ms t (Ie018 mrn control) accepted = cc
accepted_unregistered country gs ms t (Ie045 mrn cause) accepted = cc
accepted_unregistered country gs ms t (Ie140 mrn) accepted = cc
accepted_unregistered country gs ms t (SeeHolder h) accepted = cc
accepted_unregistered country gs ms t (SeeMovement h mrn) accepted = cc
accepted_unregistered country gs ms t (SeeMovements h) accepted = cc
accepted_unregistered country gs ms t (SeeGuarantee h grn) accepted = cc
accepted_unregistered country gs ms t (SeeGuarantees h) accepted = cc

-- an accepted command has rows, as its holder is registered
pub some_made : (country : List ℕ) (o : Option HolderRow) (gs : List Guarantee) (ms : List Movement) (t : ℕ) (command : Command) → is_accepted_at (record { country = country; holder = o; guarantees = gs; movements = ms }) t command ≡ true → is_change (change_of (record { country = country; holder = o; guarantees = gs; movements = ms }) t command) ≡ true
some_made country o gs ms t (Register holder eori) accepted = refl
some_made country None gs ms t (OpenGuarantee holder reference cover code) accepted = cc
some_made country (Some row) gs ms t (OpenGuarantee holder reference cover code) accepted = refl
some_made country None gs ms t (Amend grn reference cover) accepted = cc
some_made country (Some row) gs ms t (Amend grn reference cover) accepted = refl
some_made country None gs ms t (Revoke grn) accepted = cc
some_made country (Some row) gs ms t (Revoke grn) accepted = refl
some_made country None gs ms t (Ie015 holder lrn departure destination lines) accepted = cc
some_made country (Some row) gs ms t (Ie015 holder lrn departure destination lines) accepted = refl
some_made country None gs ms t (Ie014 holder mrn) accepted = cc
some_made country (Some row) gs ms t (Ie014 holder mrn) accepted = refl
some_made country None gs ms t (AddCode holder grn code) accepted = cc
some_made country (Some row) gs ms t (AddCode holder grn code) accepted = refl
some_made country None gs ms t (RemoveCode holder grn code) accepted = cc
some_made country (Some row) gs ms t (RemoveCode holder grn code) accepted = refl
some_made country None gs ms t (Ie029 mrn limit) accepted = cc
some_made country (Some row) gs ms t (Ie029 mrn limit) accepted = refl
some_made country None gs ms t (Ie007 mrn office) accepted = cc
some_made country (Some row) gs ms t (Ie007 mrn office) accepted = refl
some_made country None gs ms t (Ie018 mrn control) accepted = cc
some_made country (Some row) gs ms t (Ie018 mrn control) accepted = refl
some_made country None gs ms t (Ie045 mrn cause) accepted = cc
some_made country (Some row) gs ms t (Ie045 mrn cause) accepted = refl
some_made country None gs ms t (Ie140 mrn) accepted = cc
some_made country (Some row) gs ms t (Ie140 mrn) accepted = refl
some_made country o gs ms t (SeeHolder holder) accepted = cc
some_made country o gs ms t (SeeMovement holder mrn) accepted = cc
some_made country o gs ms t (SeeMovements holder) accepted = cc
some_made country o gs ms t (SeeGuarantee holder grn) accepted = cc
some_made country o gs ms t (SeeGuarantees holder) accepted = cc

-- The parts of the account grow by the rows of an accepted command. Where nobody is registered, no serial was used.
pub step_made : (H : ℕ) (country : List ℕ) (e : Option (List ℕ)) (at g m t : ℕ) (gs : List Guarantee) (ms : List Movement) (command : Command) → (e ≡ None → (g ≡ 0) × (m ≡ 0))
    → owner_of country command ≡ Some H → is_accepted_at (account_made H country e at g m gs ms) t command ≡ true
    → account_made H country (eori_after e command) t (g + openings command) (m + declarations command) (map (guarantee_said t command) gs ++ opened_by country H g t command) (map (movement_said t command) ms ++ declared_by country H m t command)
    ≡ account_after (change_of (account_made H country e at g m gs ms) t command) (account_made H country e at g m gs ms)
step_made H country None at g m t gs ms (Register h x) none own accepted =
    let same : h ≡ H = cc in
    let zero = none refl in
    rw (same, zero.0, zero.1, map-id, map-id, append-nil, append-nil) refl
step_made H country (Some e) at g m t gs ms (Register h x) none own accepted = absurd (false≢true accepted)
step_made H country None at g m t gs ms (OpenGuarantee h reference cover code) none own accepted = absurd (false≢true accepted)
step_made H country (Some e) at g m t gs ms (OpenGuarantee h reference cover code) none own accepted =
    let same : h ≡ H = cc in
    rw (same, add-zero, map-id, map-id, append-nil) refl
step_made H country None at g m t gs ms (Amend grn reference cover) none own accepted = absurd (false≢true accepted)
step_made H country (Some e) at g m t gs ms (Amend grn reference cover) none own accepted = rw (add-zero, add-zero, map-id, append-nil, append-nil) refl
step_made H country None at g m t gs ms (Revoke grn) none own accepted = absurd (false≢true accepted)
step_made H country (Some e) at g m t gs ms (Revoke grn) none own accepted = rw (add-zero, add-zero, map-id, append-nil, append-nil) refl
step_made H country None at g m t gs ms (Ie015 h lrn departure destination lines) none own accepted = absurd (false≢true accepted)
step_made H country (Some e) at g m t gs ms (Ie015 h lrn departure destination lines) none own accepted =
    let same : h ≡ H = cc in
    rw (same, add-zero, map-id, map-id, append-nil) refl
step_made H country None at g m t gs ms (Ie014 h mrn) none own accepted = absurd (false≢true accepted)
step_made H country (Some e) at g m t gs ms (Ie014 h mrn) none own accepted = rw (add-zero, add-zero, map-id, append-nil, append-nil) refl
step_made H country None at g m t gs ms (AddCode h grn code) none own accepted = absurd (false≢true accepted)
step_made H country (Some e) at g m t gs ms (AddCode h grn code) none own accepted = rw (add-zero, add-zero, map-id, append-nil, append-nil) refl
step_made H country None at g m t gs ms (RemoveCode h grn code) none own accepted = absurd (false≢true accepted)
step_made H country (Some e) at g m t gs ms (RemoveCode h grn code) none own accepted = rw (add-zero, add-zero, map-id, append-nil, append-nil) refl
step_made H country None at g m t gs ms (Ie029 mrn limit) none own accepted = absurd (false≢true accepted)
step_made H country (Some e) at g m t gs ms (Ie029 mrn limit) none own accepted = rw (add-zero, add-zero, map-id, append-nil, append-nil) refl
step_made H country None at g m t gs ms (Ie007 mrn office) none own accepted = absurd (false≢true accepted)
step_made H country (Some e) at g m t gs ms (Ie007 mrn office) none own accepted = rw (add-zero, add-zero, map-id, append-nil, append-nil) refl
step_made H country None at g m t gs ms (Ie018 mrn control) none own accepted = absurd (false≢true accepted)
step_made H country (Some e) at g m t gs ms (Ie018 mrn control) none own accepted = rw (add-zero, add-zero, map-id, append-nil, append-nil) refl
step_made H country None at g m t gs ms (Ie045 mrn cause) none own accepted = absurd (false≢true accepted)
step_made H country (Some e) at g m t gs ms (Ie045 mrn cause) none own accepted = rw (add-zero, add-zero, map-id, append-nil, append-nil) refl
step_made H country None at g m t gs ms (Ie140 mrn) none own accepted = absurd (false≢true accepted)
step_made H country (Some e) at g m t gs ms (Ie140 mrn) none own accepted = rw (add-zero, add-zero, map-id, append-nil, append-nil) refl
step_made H country e at g m t gs ms (SeeHolder h) none own accepted = absurd (false≢true accepted)
step_made H country e at g m t gs ms (SeeMovement h mrn) none own accepted = absurd (false≢true accepted)
step_made H country e at g m t gs ms (SeeMovements h) none own accepted = absurd (false≢true accepted)
step_made H country e at g m t gs ms (SeeGuarantee h grn) none own accepted = absurd (false≢true accepted)
step_made H country e at g m t gs ms (SeeGuarantees h) none own accepted = absurd (false≢true accepted)

-- the days of a movement that has arrived are those of its state after a control
judged_days : (control : Control) (mrn : List ℕ) (m : Movement) → HasArrived m → HasDaysOf (judged control) (with_status (new_state mrn (judged control)) m)
judged_days A1 mrn m days = days
judged_days A2 mrn m days = days
judged_days B1 mrn m days = days

-- what an accepted command of H writes over H's account follows on it
pub rows_are_for : (H : ℕ) (country : List ℕ) (o : Option HolderRow) (gs : List Guarantee) (ms : List Movement) (t : ℕ) (command : Command) → owner_of country command ≡ Some H → IsProper command → IsMoment t
    → is_accepted_at (record { country = country; holder = o; guarantees = gs; movements = ms }) t command ≡ true
    → IsFor country H (record { country = country; holder = o; guarantees = gs; movements = ms }) (change_of (record { country = country; holder = o; guarantees = gs; movements = ms }) t command)
rows_are_for H country None gs ms t (Register h eori) own proper moment accepted = record {
  new = refl;
  number = cc;
  ranges = record { number = proper.0; eori = proper.1; last_at = moment };
  no_grn = refl;
  no_mrn = refl;
}
rows_are_for H country (Some row) gs ms t (Register h eori) own proper moment accepted = cc
rows_are_for H country None gs ms t (OpenGuarantee h reference cover code) own proper moment accepted = cc
rows_are_for H country (Some row) gs ms t (OpenGuarantee h reference cover code) own proper moment accepted =
    let facts = opened_facts (nat_lt t row.last_at) (nat_le greatest_grn_given row.grn_count) _ accepted in
    let same : h ≡ H = cc in
    record {
      old = row;
      known = refl;
      moment = moment;
      next = refl;
      left = grind (arith, nat_tests, facts.1);
      guarantee = record { grn = (year2_at t, omega arith, ap (λ n. grn_text (year2_at t) country n (row.grn_count + 1)) same); reference = proper.1; cover = proper.2; ends = tt; codes = one_code code proper.3 };
    }
rows_are_for H country None gs ms t (Amend grn reference cover) own proper moment accepted = cc
rows_are_for H country (Some row) gs ms t (Amend grn reference cover) own proper moment accepted =
    let facts = named_facts NoGuarantee row t (guarantee_by_grn grn gs) _ accepted in
    let g = facts.0 in
    let fits = passed (BelowUse (used_on g.grn ms)) (nat_lt reference (used_on g.grn ms)) _ facts.2 in
    record {
      old = row;
      known = refl;
      moment = moment;
      next = refl;
      guarantee = g;
      found = facts.1;
      same = λ g. refl;
      keeps = λ n is. record { grn = is.grn; reference = proper.1; cover = proper.2; ends = is.ends; codes = is.codes };
      cover = λ covered. grind (arith, nat_tests, fits.0);
    }
rows_are_for H country None gs ms t (Revoke grn) own proper moment accepted = cc
rows_are_for H country (Some row) gs ms t (Revoke grn) own proper moment accepted =
    let facts = named_facts NoGuarantee row t (guarantee_by_grn grn gs) _ accepted in
    let g = facts.0 in
    record {
      old = row;
      known = refl;
      moment = moment;
      next = refl;
      guarantee = g;
      found = facts.1;
      same = λ g. refl;
      keeps = λ n is. record { grn = is.grn; reference = is.reference; cover = is.cover; ends = end_is t moment; codes = is.codes };
      cover = λ covered. covered;
    }
rows_are_for H country None gs ms t (Ie015 h lrn departure destination lines) own proper moment accepted = cc
rows_are_for H country (Some row) gs ms t (Ie015 h lrn departure destination lines) own proper moment accepted =
    let facts = lodged_facts (nat_lt t row.last_at) (movement_by_lrn lrn ms) (has_contents departure destination (map line_of lines)) (nat_le greatest_mrn_given row.mrn_count) (first_refusal (day_of_moment t) gs lines) _ accepted in
    let same : h ≡ H = cc in
    let left : row.mrn_count < greatest_mrn_given = grind (arith, nat_tests, facts.2) in
    record {
      old = row;
      known = refl;
      moment = moment;
      next = refl;
      left = left;
      movement = record { mrn = inl ((omega arith, omega (arith, left)), ap (λ n. mrn_text (year2_at t) country n (row.mrn_count + 1)) same); lrn = proper.1; departure = proper.2; destination = proper.3; accepted = day_is t moment; status = record { days = (refl, (refl, refl)); limit = tt; arrival = tt; actual = tt }; lines = lines_kept gs lines proper.4 (named_if_fine (day_of_moment t) gs lines facts.3) };
      fresh = facts.1;
      accepted = refl;
    }
rows_are_for H country None gs ms t (Ie014 h mrn) own proper moment accepted = cc
rows_are_for H country (Some row) gs ms t (Ie014 h mrn) own proper moment accepted =
    let facts = moved_facts NoHolder row t (movement_by_mrn mrn ms) Cancel _ accepted in
    let m = facts.0 in
    let from = cancelled_from m.state facts.2 facts.3 in
    record {
      old = row;
      known = refl;
      moment = moment;
      next = refl;
      movement = m;
      found = facts.1;
      move = Cancel;
      leads = facts.3 ∙ ap Some from.0;
      keeps = λ is. record { days = subst (λ (s : State). HasDaysOf s m) from.1 is.days; limit = is.limit; arrival = is.arrival; actual = is.actual };
      cover = λ differ distinct covered. no_more_moved (new_state mrn Cancelled) ms m differ.mrns facts.1 (λ begins. absurd (false≢true begins)) gs covered;
    }
rows_are_for H country None gs ms t (AddCode h grn code) own proper moment accepted = cc
rows_are_for H country (Some row) gs ms t (AddCode h grn code) own proper moment accepted =
    let facts = named_facts NoHolder row t (guarantee_by_grn grn gs) _ accepted in
    let g = facts.0 in
    let known = passed CodeKnown (stands code g.codes) _ facts.2 in
    let full = passed CodesFull (nat_le most_codes (length g.codes)) _ known.1 in (
      record {
        old = row;
        known = refl;
        moment = moment;
        next = refl;
        guarantee = g;
        found = facts.1;
        same = λ g. refl;
        keeps = λ n is. record { grn = is.grn; reference = is.reference; cover = is.cover; ends = is.ends; codes = codes_with code g.codes known.0 full.0 proper.2 is.codes };
        cover = λ covered. covered;
      },
      record { guarantee = g; found = facts.1; new = known.0 },
    )
rows_are_for H country None gs ms t (RemoveCode h grn code) own proper moment accepted = cc
rows_are_for H country (Some row) gs ms t (RemoveCode h grn code) own proper moment accepted =
    let facts = named_facts NoHolder row t (guarantee_by_grn grn gs) _ accepted in
    let g = facts.0 in
    let some = passed NoCode (not (stands code g.codes)) _ facts.2 in
    let last = passed LastCode (nat_le (length g.codes) 1) _ some.1 in
    record {
      old = row;
      known = refl;
      moment = moment;
      next = refl;
      guarantee = g;
      found = facts.1;
      same = λ g. refl;
      keeps = λ n is. record { grn = is.grn; reference = is.reference; cover = is.cover; ends = is.ends; codes = codes_without code g.codes last.0 is.codes };
      cover = λ covered. covered;
    }
rows_are_for H country None gs ms t (Ie029 mrn limit) own proper moment accepted = cc
rows_are_for H country (Some row) gs ms t (Ie029 mrn limit) own proper moment accepted =
    let facts = moved_facts NoMovement row t (movement_by_mrn mrn ms) Release _ accepted in
    let m = facts.0 in
    let from = released_from m.state facts.2 facts.3 in
    let account : Account = record { country = country; holder = Some row; guarantees = gs; movements = ms } in
    let fine = lines_passed (first_uncovered (day_of_moment t) (entry_in account) m.lines) _ (passed LimitDate _ _ facts.4).1 in
    record {
      old = row;
      known = refl;
      moment = moment;
      next = refl;
      movement = m;
      found = facts.1;
      move = Release;
      leads = facts.3 ∙ ap Some from.0;
      keeps = λ is. record { days = (refl, (subst (λ (s : State). HasDaysOf s m) from.1 is.days).1); limit = proper.1; arrival = is.arrival; actual = is.actual };
      cover = λ differ distinct covered. covered_when_released account (day_of_moment t) (record (new_state mrn Released) { limit = Some limit }) m differ facts.1 distinct fine covered;
    }
rows_are_for H country None gs ms t (Ie007 mrn office) own proper moment accepted = cc
rows_are_for H country (Some row) gs ms t (Ie007 mrn office) own proper moment accepted =
    let facts = moved_facts NoMovement row t (movement_by_mrn mrn ms) Arrive _ accepted in
    let m = facts.0 in
    let from = arrived_from m.state facts.2 facts.3 in
    record {
      old = row;
      known = refl;
      moment = moment;
      next = refl;
      movement = m;
      found = facts.1;
      move = Arrive;
      leads = facts.3 ∙ ap Some from.0;
      keeps = λ is. record { days = (from.2 m is.days, refl, refl); limit = is.limit; arrival = day_is t moment; actual = proper.1 };
      cover = λ differ distinct covered. no_more_moved (record (new_state mrn Arrived) { arrival = Some (day_of_moment t); actual = Some office }) ms m differ.mrns facts.1 (λ begins. from.1) gs covered;
    }
rows_are_for H country None gs ms t (Ie018 mrn control) own proper moment accepted = cc
rows_are_for H country (Some row) gs ms t (Ie018 mrn control) own proper moment accepted =
    let facts = moved_facts NoMovement row t (movement_by_mrn mrn ms) (Judge control) _ accepted in
    let m = facts.0 in
    let from = judged_from m.state facts.2 control facts.3 in
    record {
      old = row;
      known = refl;
      moment = moment;
      next = refl;
      movement = m;
      found = facts.1;
      move = Judge control;
      leads = facts.3 ∙ ap Some from.0;
      keeps = λ is. record { days = judged_days control mrn m (from.2 m is.days); limit = is.limit; arrival = is.arrival; actual = is.actual };
      cover = λ differ distinct covered. no_more_moved (new_state mrn (judged control)) ms m differ.mrns facts.1 (λ begins. from.1) gs covered;
    }
rows_are_for H country None gs ms t (Ie045 mrn cause) own proper moment accepted = cc
rows_are_for H country (Some row) gs ms t (Ie045 mrn cause) own proper moment accepted =
    let facts = moved_facts NoMovement row t (movement_by_mrn mrn ms) (WriteOff cause) _ accepted in
    let m = facts.0 in
    let from = written_off_from m.state facts.2 cause facts.3 in
    record {
      old = row;
      known = refl;
      moment = moment;
      next = refl;
      movement = m;
      found = facts.1;
      move = WriteOff cause;
      leads = facts.3 ∙ ap Some from.0;
      keeps = λ is. record { days = from.1 m is.days; limit = is.limit; arrival = is.arrival; actual = is.actual };
      cover = λ differ distinct covered. no_more_moved (new_state mrn WrittenOff) ms m differ.mrns facts.1 (λ begins. absurd (false≢true begins)) gs covered;
    }
rows_are_for H country None gs ms t (Ie140 mrn) own proper moment accepted = cc
rows_are_for H country (Some row) gs ms t (Ie140 mrn) own proper moment accepted =
    let facts = moved_facts NoMovement row t (movement_by_mrn mrn ms) Enquire _ accepted in
    let m = facts.0 in
    let from = enquired_from m.state facts.2 facts.3 in
    record {
      old = row;
      known = refl;
      moment = moment;
      next = refl;
      movement = m;
      found = facts.1;
      move = Enquire;
      leads = facts.3 ∙ ap Some from.0;
      keeps = λ is. record { days = subst (λ (s : State). HasDaysOf s m) from.1 is.days; limit = is.limit; arrival = is.arrival; actual = is.actual };
      cover = λ differ distinct covered. no_more_moved (new_state mrn Enquired) ms m differ.mrns facts.1 (λ begins. ap is_counting from.1) gs covered;
    }
rows_are_for H country o gs ms t (SeeHolder h) own proper moment accepted = cc
rows_are_for H country o gs ms t (SeeMovement h mrn) own proper moment accepted = cc
rows_are_for H country o gs ms t (SeeMovements h) own proper moment accepted = cc
rows_are_for H country o gs ms t (SeeGuarantee h grn) own proper moment accepted = cc
rows_are_for H country o gs ms t (SeeGuarantees h) own proper moment accepted = cc
