-- What is said the second time, command by command.
use Rattle.std.proofs.Common.{◌≡◌, ℕ, Bool, true, false, List, [], ◌∷◌, ◌++◌, map, Option, Some, None, refl, sym, ◌∙◌, ap, ◌+◌, arith}
use Rattle.std.specs.Prelude.{◌&&◌, if◌then◌else◌, nat_le, nat_lt, not}
use Rattle.std.specs.Cmp.Lexicographic.{pointwise}
use Rattle.std.specs.Str.{bytes_eq}
use Rattle.std.proofs.lemmas.Bool.Decides.{nat_tests}
use Rattle.std.proofs.lemmas.List.Folds.{find-append}
use Rattle.td_base.specs.Days.{day_of_moment, moment_of}
use Rattle.td_base.specs.References.{mrn_text}
use Rattle.td_guarantee.specs.declared.guarantee.Guarantee.{Guarantee}
use Rattle.td_guarantee.specs.Codes.{without_code}
use Rattle.td_movement.specs.declared.line.Line.{Line}
use Rattle.td_movement.specs.declared.movement.Movement.{Movement}
use Rattle.td_movement.specs.declared.moves.Move.{Move}
use Rattle.td_movement.specs.declared.moves.Move.TheVariants.{Cancel, Release, Arrive, Judge, WriteOff, Enquire}
use Rattle.td_movement.specs.declared.state.State.{State}
use Rattle.td_movement.specs.declared.state.State.TheVariants.{Arrived, Cancelled, Cleared, Discrepant, Enquired, Released, WrittenOff}
use Rattle.td_movement.specs.declared.state.Control.TheVariants.{A1, A2, B1}
use Rattle.td_movement.specs.States.{state_after}
use Rattle.td_commands.specs.declared.command.Command.{Command}
use Rattle.td_commands.specs.declared.command.Command.TheVariants.{Register, OpenGuarantee, Amend, Revoke, Ie015, Ie014, AddCode, RemoveCode, Ie029, Ie007, Ie018, Ie045, Ie140, SeeHolder, SeeMovement, SeeMovements, SeeGuarantee, SeeGuarantees}
use Rattle.td_commands.specs.declared.said.Refusal.{Refusal}
use Rattle.td_commands.specs.declared.said.Refusal.TheVariants.{ClockBack, NoGuarantee, NoHolder, NoMovement, WrongState}
use Rattle.td_commands.specs.declared.said.Said.{Said}
use Rattle.td_commands.specs.declared.said.Said.TheVariants.{Refused}
use Rattle.td_commands.specs.Lines.{line_of}
use Rattle.td_model.specs.declared.change.NewStatus.{NewStatus}
use Rattle.td_model.specs.Changes.{account_after, moved, with_status, with_terms, new_state, no_terms}
use Rattle.td_acts.specs.Deciding.{change_in, change_of, touched}
use Rattle.td_acts.proofs.Accepted.{lodged_facts}
use Rattle.td_model.specs.declared.holder_row.HolderRow.{HolderRow}
use Rattle.td_model.specs.Account.{Account, at_grn, coded, uncoded, guarantee_by_grn, movement_by_lrn, movement_by_mrn}
use Rattle.td_model.specs.Declaring.{first_refusal, has_contents, is_same_line}
use Rattle.td_model.specs.Effects.{end_after, greatest_mrn_given, new_movement, openings, year2_at}
use Rattle.td_model.specs.Machine.{is_accepted_at, is_accepted_in, is_answer}
use Rattle.td_model.specs.Table.{is_back, on_guarantee, on_movement, or_refuse, said_at, said_in, stands}
use Rattle.td_redo.specs.Second.{said_again, SaidTheSecondTime}
use Rattle.td_redo.proofs.Twice.{is_itself, stands_with}

-- a moment isn't before itself
pub not_back : (t : ℕ) → nat_lt t t ≡ false
not_back t = grind (arith, nat_tests)

-- what is found of a guarantee after something was said of it, and of a movement after it has moved
found_said : (grn : List ℕ) (made : Guarantee → Guarantee) (gs : List Guarantee) (g : Guarantee) → ((g : Guarantee) → (made g).grn ≡ g.grn)
    → guarantee_by_grn grn gs ≡ Some g → guarantee_by_grn grn (map (at_grn grn made) gs) ≡ Some (made g)
found_said grn made [] g same found = cc
found_said grn made (h ∷ gs) g same found = by_test (bytes_eq h.grn grn) refl found (found_said grn made gs g same)
  where
    by_test : (b : Bool) → bytes_eq h.grn grn ≡ b → if◌then◌else◌ {A = Option Guarantee} b (Some h) (guarantee_by_grn grn gs) ≡ Some g
        → (guarantee_by_grn grn gs ≡ Some g → guarantee_by_grn grn (map (at_grn grn made) gs) ≡ Some (made g))
        → guarantee_by_grn grn ((if b then made h else h) ∷ map (at_grn grn made) gs) ≡ Some (made g)
    by_test true named here later =
        let still : bytes_eq (made h).grn grn ≡ true = ap (λ k. bytes_eq k grn) (same h) ∙ named in
        let one : h ≡ g = cc in
        rw still (ap (λ (x : Guarantee). Some (made x)) one)
    by_test false other here later = rw other (later here)

found_moved : (status : NewStatus) (ms : List Movement) (m : Movement) → movement_by_mrn status.mrn ms ≡ Some m
    → movement_by_mrn status.mrn (map (moved status) ms) ≡ Some (with_status status m)
found_moved status [] m found = cc
found_moved status (h ∷ ms) m found = by_test (bytes_eq h.mrn status.mrn) refl found (found_moved status ms m)
  where
    by_test : (b : Bool) → bytes_eq h.mrn status.mrn ≡ b → if◌then◌else◌ {A = Option Movement} b (Some h) (movement_by_mrn status.mrn ms) ≡ Some m
        → (movement_by_mrn status.mrn ms ≡ Some m → movement_by_mrn status.mrn (map (moved status) ms) ≡ Some (with_status status m))
        → movement_by_mrn status.mrn ((if b then with_status status h else h) ∷ map (moved status) ms) ≡ Some (with_status status m)
    by_test true named here later = let one : h ≡ m = cc in rw named (ap (λ (x : Movement). Some (with_status status x)) one)
    by_test false other here later = rw other (later here)

-- what was said the first time of a guarantee that is there, and what is said the second time
first_named : (unregistered : Refusal) (row : HolderRow) (t : ℕ) (o : Option Guarantee) (said_of : Guarantee → Said)
    → is_answer (on_guarantee unregistered (Some row) t o said_of) && true ≡ true
    → (g : Guarantee) × (o ≡ Some g) × (on_guarantee unregistered (Some row) t o said_of ≡ said_of g)
first_named unregistered row t o said_of accepted = by_clock (is_back t row) o accepted
  where
    by_clock : (back : Bool) (o : Option Guarantee) → is_answer (if back then Refused ClockBack else or_refuse NoGuarantee o said_of) && true ≡ true
        → (g : Guarantee) × (o ≡ Some g) × ((if back then Refused ClockBack else or_refuse NoGuarantee o said_of) ≡ said_of g)
    by_clock true o accepted = cc
    by_clock false None accepted = cc
    by_clock false (Some g) accepted = (g, refl, refl)

second_named : (unregistered : Refusal) (row : HolderRow) (t : ℕ) (grn : List ℕ) (made : Guarantee → Guarantee) (gs : List Guarantee) (g : Guarantee) (said_of : Guarantee → Said)
    → ((g : Guarantee) → (made g).grn ≡ g.grn) → guarantee_by_grn grn gs ≡ Some g
    → on_guarantee unregistered (Some (touched row t)) t (guarantee_by_grn grn (map (at_grn grn made) gs)) said_of ≡ said_of (made g)
second_named unregistered row t grn made gs g said_of same found = rw (not_back t, found_said grn made gs g same found) refl

-- and of a movement that is there
first_moved : (unregistered : Refusal) (row : HolderRow) (t : ℕ) (o : Option Movement) (to : Move) (said_of : Movement → Said)
    → is_answer (on_movement unregistered (Some row) t o to said_of) && true ≡ true
    → (m : Movement) × (o ≡ Some m) × (on_movement unregistered (Some row) t o to said_of ≡ said_of m)
first_moved unregistered row t o to said_of accepted = by_clock (is_back t row) o accepted
  where
    by_state : (m : Movement) (s : Option State) → is_answer (or_refuse (WrongState m.state) s (λ state. said_of m)) && true ≡ true
        → or_refuse (WrongState m.state) s (λ state. said_of m) ≡ said_of m
    by_state m None accepted = cc
    by_state m (Some state) accepted = refl

    by_clock : (back : Bool) (o : Option Movement)
        → is_answer (if back then Refused ClockBack else or_refuse NoMovement o (λ m. or_refuse (WrongState m.state) (state_after m.state to) (λ state. said_of m))) && true ≡ true
        → (m : Movement) × (o ≡ Some m)
        × ((if back then Refused ClockBack else or_refuse NoMovement o (λ m. or_refuse (WrongState m.state) (state_after m.state to) (λ state. said_of m))) ≡ said_of m)
    by_clock true o accepted = cc
    by_clock false None accepted = cc
    by_clock false (Some m) accepted = (m, refl, by_state m (state_after m.state to) accepted)

second_moved : (unregistered : Refusal) (row : HolderRow) (t : ℕ) (status : NewStatus) (ms : List Movement) (m : Movement) (to : Move) (said_of : Movement → Said)
    → movement_by_mrn status.mrn ms ≡ Some m
    → on_movement unregistered (Some (touched row t)) t (movement_by_mrn status.mrn (map (moved status) ms)) to said_of
    ≡ or_refuse (WrongState status.state) (state_after status.state to) (λ state. said_of (with_status status m))
second_moved unregistered row t status ms m to said_of found = rw (not_back t, found_moved status ms m found) refl

-- a code that was taken away stands no more
left_out : (code : List ℕ) (codes : List (List ℕ)) → stands code (without_code code codes) ≡ false
left_out code [] = refl
left_out code (c ∷ codes) = by_test (bytes_eq c code) refl (left_out code codes)
  where
    by_test : (b : Bool) → bytes_eq c code ≡ b → stands code (without_code code codes) ≡ false
        → stands code (if not b then c ∷ without_code code codes else without_code code codes) ≡ false
    by_test true is rest = rest
    by_test false is rest = rw is rest

-- lines are the same as themselves
same_line : (l : Line) → is_same_line l l ≡ true
same_line l = grind (arith, nat_tests, is_itself l.grn)

same_lines : (lines : List Line) → pointwise is_same_line lines lines ≡ true
same_lines [] = refl
same_lines (l ∷ lines) = rw (same_line l) (same_lines lines)

known_lrn : (lrn : List ℕ) (ms : List Movement) (m : Movement) → m.lrn ≡ lrn → movement_by_lrn lrn ms ≡ None → movement_by_lrn lrn (ms ++ m ∷ []) ≡ Some m
known_lrn lrn ms m same none =
    let named : bytes_eq m.lrn lrn ≡ true = ap (λ k. bytes_eq k lrn) same ∙ is_itself lrn in
    find-append (λ (m : Movement). bytes_eq m.lrn lrn) ms (m ∷ []) ∙ rw (none, named) refl

abbrev account_of_parts : List ℕ → Option HolderRow → List Guarantee → List Movement → Account
account_of_parts country o gs ms = record { country = country; holder = o; guarantees = gs; movements = ms }

-- where the state has the move no more, whatever else would be said
moves_no_more : (unregistered : Refusal) (row : HolderRow) (t : ℕ) (status : NewStatus) (ms : List Movement) (to : Move) (said_of other : Movement → Said)
    → state_after status.state to ≡ None → is_answer (on_movement unregistered (Some row) t (movement_by_mrn status.mrn ms) to said_of) && true ≡ true
    → on_movement unregistered (Some (touched row t)) t (movement_by_mrn status.mrn (map (moved status) ms)) to other ≡ Refused (WrongState status.state)
moves_no_more unregistered row t status ms to said_of other no_move accepted =
    let first = first_moved unregistered row t (movement_by_mrn status.mrn ms) to said_of accepted in
    second_moved unregistered row t status ms first.0 to other first.1
    ∙ ap (λ (o : Option State). or_refuse (WrongState status.state) o (λ state. other (with_status status first.0))) no_move

second_at : (country : List ℕ) (o : Option HolderRow) (gs : List Guarantee) (ms : List Movement) (t : ℕ) (command : Command) → openings command ≡ 0
    → let a = account_of_parts country o gs ms in
    is_accepted_at a t command ≡ true → said_at (account_after (change_of a t command) a) t command ≡ said_again command (said_at a t command)
second_at country o gs ms t (Register h eori) none accepted = refl
second_at country o gs ms t (OpenGuarantee h reference cover code) none accepted = cc
second_at country None gs ms t (Amend grn reference cover) none accepted = cc
second_at country (Some row) gs ms t (Amend grn reference cover) none accepted =
    let first = first_named NoGuarantee row t (guarantee_by_grn grn gs) _ accepted in
    second_named NoGuarantee row t grn (with_terms (record (no_terms grn) { reference = Some reference; cover = Some cover })) gs first.0 _ (λ g. refl) first.1 ∙ sym first.2
second_at country None gs ms t (Revoke grn) none accepted = cc
second_at country (Some row) gs ms t (Revoke grn) none accepted =
    let first = first_named NoGuarantee row t (guarantee_by_grn grn gs) _ accepted in
    second_named NoGuarantee row t grn (with_terms (record (no_terms grn) { ends = Some (end_after (day_of_moment t)) })) gs first.0 _ (λ g. refl) first.1
second_at country None gs ms t (Ie015 h lrn departure destination lines) none accepted = cc
second_at country (Some row) gs ms t (Ie015 h lrn departure destination lines) none accepted =
    let facts = lodged_facts (nat_lt t row.last_at) (movement_by_lrn lrn ms) (has_contents departure destination (map line_of lines)) (nat_le greatest_mrn_given row.mrn_count) (first_refusal (day_of_moment t) gs lines) _ accepted in
    let found = known_lrn lrn ms (new_movement (mrn_text (year2_at t) country h (row.mrn_count + 1)) lrn departure destination (day_of_moment t) (map line_of lines)) refl facts.1 in
    rw (facts.0, facts.1, facts.2, facts.3, not_back t, found, is_itself departure, is_itself destination, same_lines (map line_of lines)) refl
second_at country None gs ms t (Ie014 h mrn) none accepted = cc
second_at country (Some row) gs ms t (Ie014 h mrn) none accepted = moves_no_more NoHolder row t (new_state mrn Cancelled) ms Cancel _ _ refl accepted
second_at country None gs ms t (AddCode h grn code) none accepted = cc
second_at country (Some row) gs ms t (AddCode h grn code) none accepted =
    let first = first_named NoHolder row t (guarantee_by_grn grn gs) _ accepted in
    second_named NoHolder row t grn (coded code) gs first.0 _ (λ g. refl) first.1 ∙ rw (stands_with code first.0.codes) refl
second_at country None gs ms t (RemoveCode h grn code) none accepted = cc
second_at country (Some row) gs ms t (RemoveCode h grn code) none accepted =
    let first = first_named NoHolder row t (guarantee_by_grn grn gs) _ accepted in
    second_named NoHolder row t grn (uncoded code) gs first.0 _ (λ g. refl) first.1 ∙ rw (left_out code first.0.codes) refl
second_at country None gs ms t (Ie029 mrn limit) none accepted = cc
second_at country (Some row) gs ms t (Ie029 mrn limit) none accepted = moves_no_more NoMovement row t (record (new_state mrn Released) { limit = Some limit }) ms Release _ _ refl accepted
second_at country None gs ms t (Ie007 mrn office) none accepted = cc
second_at country (Some row) gs ms t (Ie007 mrn office) none accepted =
    moves_no_more NoMovement row t (record (new_state mrn Arrived) { arrival = Some (day_of_moment t); actual = Some office }) ms Arrive _ _ refl accepted
second_at country None gs ms t (Ie018 mrn result) none accepted = cc
second_at country (Some row) gs ms t (Ie018 mrn A1) none accepted = moves_no_more NoMovement row t (new_state mrn Cleared) ms (Judge A1) _ _ refl accepted
second_at country (Some row) gs ms t (Ie018 mrn A2) none accepted = moves_no_more NoMovement row t (new_state mrn Cleared) ms (Judge A2) _ _ refl accepted
second_at country (Some row) gs ms t (Ie018 mrn B1) none accepted =
    let first = first_moved NoMovement row t (movement_by_mrn mrn ms) (Judge B1) _ accepted in
    second_moved NoMovement row t (new_state mrn Discrepant) ms first.0 (Judge B1) _ first.1 ∙ sym first.2
second_at country None gs ms t (Ie045 mrn cause) none accepted = cc
second_at country (Some row) gs ms t (Ie045 mrn cause) none accepted = moves_no_more NoMovement row t (new_state mrn WrittenOff) ms (WriteOff cause) _ _ refl accepted
second_at country None gs ms t (Ie140 mrn) none accepted = cc
second_at country (Some row) gs ms t (Ie140 mrn) none accepted = moves_no_more NoMovement row t (new_state mrn Enquired) ms Enquire _ _ refl accepted
second_at country o gs ms t (SeeHolder h) none accepted = cc
second_at country o gs ms t (SeeMovement h mrn) none accepted = cc
second_at country o gs ms t (SeeMovements h) none accepted = cc
second_at country o gs ms t (SeeGuarantee h grn) none accepted = cc
second_at country o gs ms t (SeeGuarantees h) none accepted = cc

second_in : (m : Option ℕ) (a : Account) (command : Command) → openings command ≡ 0 → is_accepted_in m a command ≡ true
    → said_in m (account_after (change_in m a command) a) command ≡ said_again command (said_in m a command)
second_in None a command none accepted = cc
second_in (Some t) a command none accepted = rw accepted (second_at a.country a.holder a.guarantees a.movements t command none accepted)

pub said_the_second_time : SaidTheSecondTime
said_the_second_time account at command none accepted = second_in (moment_of at) account command none accepted
