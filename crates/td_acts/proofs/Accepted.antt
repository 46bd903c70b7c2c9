-- What an accepted command of H writes: rows of H, in their ranges, that follow on the rows before.
use Rattle.std.proofs.Common.{◌≡◌, ◌≢◌, ℕ, ◌+◌, ◌<◌, ◌≤◌, Bool, true, false, List, [], ◌∷◌, length, map, Option, Some, None, refl, arith}
use Rattle.std.proofs.lemmas.Bool.Decides.{nat_tests}
use Rattle.std.specs.Prelude.{◌&&◌, nat_le, not, if◌then◌else◌, AllPairs, IsSome}
use Rattle.std.specs.Option.{is_some}
use Rattle.std.specs.List.{AllByRecursion}
use Rattle.std.proofs.lemmas.List.{length-map}
use Rattle.td_base.specs.Codes.{IsAccessCode}
use Rattle.td_base.specs.Days.{IsDay, day_of_moment, IsMoment}
use Rattle.td_movement.specs.declared.line.Line.{Line}
use Rattle.td_movement.specs.declared.state.State.TheVariants.{Accepted}
use Rattle.td_model.specs.declared.holder_row.HolderRow.{HolderRow}
use Rattle.td_guarantee.specs.declared.guarantee.Guarantee.{Guarantee}
use Rattle.td_movement.specs.declared.movement.Movement.{Movement}
use Rattle.td_model.specs.declared.change.Change.{Change}
use Rattle.td_model.specs.declared.change.Change.TheVariants as change
use Rattle.td_commands.specs.declared.said.Answer.{Answer}
use Rattle.td_commands.specs.declared.said.Refusal.{Refusal}
use Rattle.td_commands.specs.declared.said.Refusal.TheVariants.{ClockBack, SerialsSpent, NoMovement, NoGuarantee, WrongState}
use Rattle.td_commands.specs.declared.said.Said.{Said}
use Rattle.td_commands.specs.declared.said.Said.TheVariants.{Answered, Refused}
use Rattle.td_movement.specs.declared.moves.Move.{Move}
use Rattle.td_movement.specs.States.{state_after}
use Rattle.td_model.specs.declared.change.NewStatus.{NewStatus}
use Rattle.td_movement.specs.declared.state.State.{State}
use Rattle.td_movement.specs.Status.{IsStatus}
use Rattle.td_model.specs.Account.{Account, ReferencesDiffer, coded, uncoded, guarantee_by_grn, movement_by_lrn, movement_by_mrn}
use Rattle.td_model.specs.Changes.{with_status, with_terms, moved}
use Rattle.td_model.specs.Machine.{is_answer}
use Rattle.td_model.specs.Declaring.{first_refusal, line_refusal, guarantee_refusal, refusal_or}
use Rattle.td_commands.specs.Lines.{line_of, IsLines, IsLineAmount}
use Rattle.td_model.specs.Table.{or_refuse, refuse_if, is_back, if_lrn_new, if_not_refused, on_guarantee, on_movement, stands}
use Rattle.td_guarantee.specs.Codes.{with_code, without_code, most_codes}
use Rattle.td_guarantee.proofs.Ascending.{one_ascends}
use Rattle.td_guarantee.proofs.Coded.{all_with, all_without, ascending_with, ascending_without, length_with, length_without}
use Rattle.td_model.specs.Effects.{end_after, greatest_grn_given, greatest_mrn_given}
use Rattle.td_model.specs.Sound.{IsHolderRow, AreCodes, IsGuaranteeRow, AreMovementLines, IsMovementRow, IsCovered}
use Rattle.td_model.proofs.Joined.{All-map, AllPairs-map, AllByRecursion-map}

-- a new holder's row, where there was none
pub record IsRegistered (H : ℕ) (before : Option HolderRow) (row : HolderRow) : Type 0 where
  pub new : before ≡ None
  pub number : row.holder ≡ H
  pub ranges : IsHolderRow row
  pub no_grn : row.grn_count ≡ 0
  pub no_mrn : row.mrn_count ≡ 0

-- the holder's row with a moment and the next serial of a guarantee, and that guarantee
pub record IsOpened (country : List ℕ) (H : ℕ) (before : Option HolderRow) (row : HolderRow) (g : Guarantee) : Type 0 where
  pub old : HolderRow
  pub known : before ≡ Some old
  pub moment : IsMoment row.last_at
  pub next : row ≡ record old { last_at = row.last_at; grn_count = old.grn_count + 1 }
  pub left : old.grn_count < greatest_grn_given
  pub guarantee : IsGuaranteeRow country H (old.grn_count + 1) g

-- the holder's row with a moment and the next serial of a movement, and that movement, of a new LRN
pub record IsDeclared (country : List ℕ) (H : ℕ) (account : Account) (row : HolderRow) (m : Movement) : Type 0 where
  pub old : HolderRow
  pub known : account.holder ≡ Some old
  pub moment : IsMoment row.last_at
  pub next : row ≡ record old { last_at = row.last_at; mrn_count = old.mrn_count + 1 }
  pub left : old.mrn_count < greatest_mrn_given
  pub movement : IsMovementRow country H account.guarantees (old.mrn_count + 1) m
  pub fresh : movement_by_lrn m.lrn account.movements ≡ None
  pub accepted : m.state ≡ Accepted

-- the holder's row with a moment, and a movement of the holder's in a new state, into which it comes by a move, in which
-- it has the days and offices of that state, and every guarantee covers what is in use
pub record IsMoved (account : Account) (row : HolderRow) (status : NewStatus) : Type 0 where
  pub old : HolderRow
  pub known : account.holder ≡ Some old
  pub moment : IsMoment row.last_at
  pub next : row ≡ record old { last_at = row.last_at }
  pub movement : Movement
  pub found : movement_by_mrn status.mrn account.movements ≡ Some movement
  pub move : Move
  pub leads : state_after movement.state move ≡ Some status.state
  pub keeps : IsStatus movement → IsStatus (with_status status movement)
  pub cover : ReferencesDiffer account → AllPairs (λ l m. l.grn ≢ m.grn) movement.lines → AllByRecursion (IsCovered account.movements) account.guarantees → AllByRecursion (IsCovered (map (moved status) account.movements)) account.guarantees

-- the holder's row with a moment, and a guarantee of the holder's of which something is said anew: it keeps its GRN and
-- its rules, and covers what is in use on it
pub record IsSaidOf (country : List ℕ) (H : ℕ) (account : Account) (row : HolderRow) (grn : List ℕ) (made : Guarantee → Guarantee) : Type 0 where
  pub old : HolderRow
  pub known : account.holder ≡ Some old
  pub moment : IsMoment row.last_at
  pub next : row ≡ record old { last_at = row.last_at }
  pub guarantee : Guarantee
  pub found : guarantee_by_grn grn account.guarantees ≡ Some guarantee
  pub same : (g : Guarantee) → (made g).grn ≡ g.grn
  pub keeps : (n : ℕ) → IsGuaranteeRow country H n guarantee → IsGuaranteeRow country H n (made guarantee)
  pub cover : IsCovered account.movements guarantee → IsCovered account.movements (made guarantee)

-- a code that is added is none that the guarantee has
pub record IsNewCode (gs : List Guarantee) (grn code : List ℕ) : Type 0 where
  pub guarantee : Guarantee
  pub found : guarantee_by_grn grn gs ≡ Some guarantee
  pub new : stands code guarantee.codes ≡ false

-- the rows of a change follow on H's account
abbrev pub IsFor : List ℕ → ℕ → Account → Change → Type 0
IsFor country H account change.Nothing = Unit {0}
IsFor country H account (change.Registered row) = IsRegistered H account.holder row
IsFor country H account (change.Opened row g) = IsOpened country H account.holder row g
IsFor country H account (change.Declared row m) = IsDeclared country H account row m
IsFor country H account (change.Moved row status) = IsMoved account row status
IsFor country H account (change.TermsSet row terms) = IsSaidOf country H account row terms.grn (with_terms terms)
IsFor country H account (change.CodeAdded row grn code) =
    IsSaidOf country H account row grn (coded code) × IsNewCode account.guarantees grn code
IsFor country H account (change.CodeRemoved row grn code) = IsSaidOf country H account row grn (uncoded code)

-- true and true
both : (b : Bool) → b && true ≡ true → b ≡ true
both true is = refl
both false is = cc

-- a guarantee is opened where neither the clock nor the serials refuse it
pub opened_facts : (back spent : Bool) (a : Answer) → is_answer (if back then Refused ClockBack else (if spent then Refused SerialsSpent else Answered a)) && true ≡ true → (back ≡ false) × (spent ≡ false)
opened_facts true spent a accepted = cc
opened_facts false true a accepted = cc
opened_facts false false a accepted = (refl, refl)

-- a movement moves where the clock doesn't refuse it, it is there, its state has the move, and nothing else refuses it
pub moved_facts : (unregistered : Refusal) (row : HolderRow) (t : ℕ) (o : Option Movement) (to : Move) (said_of : Movement → Said)
    → is_answer (on_movement unregistered (Some row) t o to said_of) && true ≡ true
    → (m : Movement) × (o ≡ Some m) × (state : State) × (state_after m.state to ≡ Some state) × (is_answer (said_of m) ≡ true)
moved_facts unregistered row t o to said_of accepted = by_clock (is_back t row) o accepted
  where
    by_state : (m : Movement) (s : Option State) → state_after m.state to ≡ s → is_answer (or_refuse (WrongState m.state) s (λ state. said_of m)) && true ≡ true
        → (n : Movement) × (Some m ≡ Some n) × (state : State) × (state_after n.state to ≡ Some state) × (is_answer (said_of n) ≡ true)
    by_state m None e accepted = cc
    by_state m (Some state) e accepted = (m, refl, state, e, both (is_answer (said_of m)) accepted)

    by_clock : (back : Bool) (o : Option Movement) → is_answer (if back then Refused ClockBack else or_refuse NoMovement o (λ m. or_refuse (WrongState m.state) (state_after m.state to) (λ state. said_of m))) && true ≡ true
        → (m : Movement) × (o ≡ Some m) × (state : State) × (state_after m.state to ≡ Some state) × (is_answer (said_of m) ≡ true)
    by_clock true o accepted = cc
    by_clock false None accepted = cc
    by_clock false (Some m) accepted = by_state m (state_after m.state to) refl accepted

-- something is said of a guarantee where the clock doesn't refuse it, it is there, and nothing else refuses it
pub named_facts : (unregistered : Refusal) (row : HolderRow) (t : ℕ) (o : Option Guarantee) (said_of : Guarantee → Said)
    → is_answer (on_guarantee unregistered (Some row) t o said_of) && true ≡ true → (g : Guarantee) × (o ≡ Some g) × (is_answer (said_of g) ≡ true)
named_facts unregistered row t o said_of accepted = by_clock (is_back t row) o accepted
  where
    by_clock : (back : Bool) (o : Option Guarantee) → is_answer (if back then Refused ClockBack else or_refuse NoGuarantee o said_of) && true ≡ true → (g : Guarantee) × (o ≡ Some g) × (is_answer (said_of g) ≡ true)
    by_clock true o accepted = cc
    by_clock false None accepted = cc
    by_clock false (Some g) accepted = (g, refl, both (is_answer (said_of g)) accepted)

-- what isn't refused
pub passed : (why : Refusal) (test : Bool) (said : Said) → is_answer (refuse_if why test said) ≡ true → (test ≡ false) × (is_answer said ≡ true)
passed why true said is = cc
passed why false said is = (refl, is)

-- lines that aren't refused
pub lines_passed : (o : Option Refusal) (said : Said) → is_answer (if_not_refused o said) ≡ true → o ≡ None
lines_passed None said is = refl
lines_passed (Some why) said is = cc

-- nothing is true and false
never : (b : Bool) → b && false ≡ true → ⊥
never true h = cc
never false h = cc

-- a declaration is accepted where nothing refuses it and its LRN is new
pub lodged_facts : (back : Bool) (known : Option Movement) (same : Movement → Bool) (spent : Bool) (refusal : Option Refusal) (a : Answer)
    → is_answer (if back then Refused ClockBack else if_lrn_new known same (if spent then Refused SerialsSpent else if_not_refused refusal (Answered a))) && not (is_some known) ≡ true
    → (back ≡ false) × (known ≡ None) × (spent ≡ false) × (refusal ≡ None)
lodged_facts true known same spent refusal a accepted = cc
lodged_facts false None same true refusal a accepted = cc
lodged_facts false None same false None a accepted = (refl, refl, refl, refl)
lodged_facts false None same false (Some why) a accepted = cc
lodged_facts false (Some m) same spent refusal a accepted = absurd (never _ accepted)

-- a line that isn't refused names a guarantee
found_if_fine : (day : ℕ) (code : List ℕ) (o : Option Guarantee) → guarantee_refusal day code o ≡ None → IsSome o
found_if_fine day code None fine = cc
found_if_fine day code (Some g) fine = refl

-- neither of two refusals came
neither : (a b : Option Refusal) → refusal_or a b ≡ None → (a ≡ None) × (b ≡ None)
neither None b h = (refl, h)
neither (Some why) b h = cc

-- lines that aren't refused name guarantees
pub named_if_fine : (day : ℕ) (gs : List Guarantee) (lines : List (Line × List ℕ)) → first_refusal day gs lines ≡ None → AllByRecursion (λ l. IsSome (guarantee_by_grn (line_of l).grn gs)) lines
named_if_fine day gs [] fine = tt
named_if_fine day gs (l ∷ lines) fine =
    let h = neither (line_refusal day gs l) (first_refusal day gs lines) fine in
    (found_if_fine day l.1 (guarantee_by_grn l.0.grn gs) h.0, named_if_fine day gs lines h.1)

-- the lines of a declaration that is accepted are those of a movement
pub lines_kept : (gs : List Guarantee) (lines : List (Line × List ℕ)) → IsLines lines → AllByRecursion (λ l. IsSome (guarantee_by_grn (line_of l).grn gs)) lines → AreMovementLines gs (map line_of lines)
lines_kept gs lines is named = record {
  some = simp length-map is.some;
  most = simp length-map is.most;
  amounts = All-map line_of (λ l. IsLineAmount l.cents) lines (λ l. (l, [])) is.amounts;
  distinct = AllPairs-map line_of (λ l m. l.grn ≢ m.grn) lines (λ l. (l, [])) is.distinct;
  own = AllByRecursion-map line_of (λ l. IsSome (guarantee_by_grn l.grn gs)) lines named;
}

-- the day of a moment is a day
pub day_is : (t : ℕ) → IsMoment t → IsDay (day_of_moment t)
day_is t moment = (omega (arith, moment.0, moment.1), omega (arith, moment.0, moment.1))

-- one code is a guarantee's codes
pub one_code : (code : List ℕ) → IsAccessCode code → AreCodes (code ∷ [])
one_code code form = record { some = omega arith; most = omega arith; form = λ k d within. let first : k ≡ 0 = omega (arith, within) in rw first form; order = one_ascends code }

-- the end of a guarantee that is revoked at a moment is a day: moments end with 2099, and days a year later
pub end_is : (t : ℕ) → IsMoment t → IsDay (end_after (day_of_moment t))
end_is t moment = (omega (arith, moment.0, moment.1), omega (arith, moment.0, moment.1))

-- a new code beside others that leave room for it
pub codes_with : (code : List ℕ) (codes : List (List ℕ)) → stands code codes ≡ false → nat_le most_codes (length codes) ≡ false → IsAccessCode code → AreCodes codes → AreCodes (with_code code codes)
codes_with code codes new room form are = record {
  some = omega (arith, length_with code codes new);
  most = (let left : length codes < most_codes = grind (arith, nat_tests, room) in omega (arith, length_with code codes new, left));
  form = all_with IsAccessCode code codes are.form form;
  order = ascending_with code codes are.order;
}

-- codes without one, where there were two at least
pub codes_without : (code : List ℕ) (codes : List (List ℕ)) → nat_le (length codes) 1 ≡ false → AreCodes codes → AreCodes (without_code code codes)
codes_without code codes more are =
    let two : 2 ≤ length codes = grind (arith, nat_tests, more) in
    let lengths = length_without code codes are.order two in
    record {
      some = lengths.0;
      most = omega (arith, lengths.1, are.most);
      form = all_without IsAccessCode code codes are.form;
      order = ascending_without code codes are.order;
    }
