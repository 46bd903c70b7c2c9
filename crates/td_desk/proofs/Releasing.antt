-- A release for transit over sound rows finds the guarantees of its movement.
use Rattle.std.proofs.Common.{◌≡◌, ◌≢◌, ◌⊎◌, ◌∙◌, ℕ, Bool, true, false, List, [], ◌∷◌, Option, Some, None, ap, inl, inr, refl, subst, sym}
use Rattle.std.specs.Prelude.{IfSome, IsSome, not, option_map, if◌then◌else◌, ◌-◌}
use Rattle.std.specs.List.{AllByRecursion}
use Rattle.td_base.specs.Days.{day_of_moment, moment_of}
use Rattle.td_guarantee.specs.Usage.{has_ended, is_within, used_on}
use Rattle.td_guarantee.specs.declared.guarantee.Guarantee.{Guarantee}
use Rattle.td_movement.specs.States.{state_after}
use Rattle.td_movement.specs.declared.line.Line.{Line}
use Rattle.td_movement.specs.declared.moves.Move.TheVariants.{Release}
use Rattle.td_movement.specs.declared.movement.Movement.{Movement}
use Rattle.td_movement.specs.declared.state.State.{State}
use Rattle.td_commands.specs.declared.command.Command.TheVariants.{Ie029}
use Rattle.td_commands.specs.declared.command.Stamped.{Stamped}
use Rattle.td_commands.specs.declared.said.Refusal.{Refusal}
use Rattle.td_commands.specs.declared.said.Refusal.TheVariants.{ClockBack, GuaranteeEnded, LimitDate, NoGuarantee, NoMovement, OverReference, WrongState}
use Rattle.td_commands.specs.declared.said.Answer.TheVariants as answer
use Rattle.td_commands.specs.declared.said.Said.{Said}
use Rattle.td_commands.specs.declared.said.Said.TheVariants.{Answered, Refused}
use Rattle.td_commands.specs.Commands.{owner_of}
use Rattle.td_model.specs.Account.{Account, HolderRows, account_with, entry_in, guarantee_by_grn, holder_key, movement_by_mrn}
use Rattle.td_model.specs.Declaring.{cover_refusal, first_uncovered, is_limit, refusal_or}
use Rattle.td_model.specs.Sound.{AreHolderRows, IsMovementRow}
use Rattle.td_model.specs.Table.{if_not_refused, is_back, or_refuse, refuse_if, said, said_in, said_on_ie029}
use Rattle.td_model.specs.declared.holder_row.HolderRow.{HolderRow}
use Rattle.keyed_rows.proofs.Putting.{All-row_at}
use Rattle.td_model.proofs.ByKey.{number_found}
use Rattle.td_acts.specs.declared.rows.Verdict.{Verdict}
use Rattle.td_model.specs.Content.{Content, IsSound, rows_of}
use Rattle.td_desk.specs.Laws.{ReleasesFindTheirGuarantees}
use Rattle.td_acts.specs.Weighing.{IsWeighed, kept_for, owner_account}
use Rattle.td_acts.proofs.Fresh.{owner_account_is_kept}

-- the guarantee of a line is there
abbrev IsThere : (List ℕ → Option (Guarantee × ℕ)) → Line → Type 0
IsThere entry l = IsSome (entry l.grn)

-- a line whose guarantee is there isn't refused because it isn't
covered_there : (day cents : ℕ) (e : Option (Guarantee × ℕ)) → IsSome e → cover_refusal day cents e ≢ Some NoGuarantee
covered_there day cents None some is = cc
covered_there day cents (Some e) some is = by_tests (has_ended day e.0.ends) (is_within e.0.reference e.1 cents) is
  where
    by_tests : (b w : Bool) → (if b then Some GuaranteeEnded else (if w then None else Some (OverReference (e.0.reference - e.1) e.0.grn))) ≢ Some NoGuarantee
    by_tests true w is = cc
    by_tests false true is = cc
    by_tests false false is = cc

either : (a b : Option Refusal) → refusal_or a b ≡ Some NoGuarantee → (a ≡ Some NoGuarantee) ⊎ (b ≡ Some NoGuarantee)
either None b is = inr is
either (Some why) b is = inl is

lines_there : (day : ℕ) (entry : List ℕ → Option (Guarantee × ℕ)) (lines : List Line) → AllByRecursion (IsThere entry) lines
    → first_uncovered day entry lines ≢ Some NoGuarantee
lines_there day entry [] all is = cc
lines_there day entry (l ∷ lines) all is =
    elim (either (cover_refusal day l.cents (entry l.grn)) (first_uncovered day entry lines) is) [
      | inl here ↦ covered_there day l.cents (entry l.grn) all.0 here
      | inr later ↦ lines_there day entry lines all.1 later
    ]

-- what is said of a movement, whose lines' guarantees are there
abbrev TellsOf : Account → ℕ → List ℕ → Type 0
TellsOf account t mrn =
    IfSome (movement_by_mrn mrn account.movements) (λ m. AllByRecursion (IsThere (entry_in account)) m.lines)

told_of : (account : Account) (t : ℕ) (mrn : List ℕ) (limit : ℕ) → TellsOf account t mrn → said_on_ie029 account t mrn limit ≢ Refused NoGuarantee
told_of account t mrn limit there = by_holder account.holder
  where
    by_refusal : (o : Option Refusal) (said : Said) → said ≢ Refused NoGuarantee → o ≢ Some NoGuarantee → if_not_refused o said ≢ Refused NoGuarantee
    by_refusal None said not_said not_refused is = not_said is
    by_refusal (Some why) said not_said not_refused is = not_refused (ap Some cc)

    by_limit : (m : Movement) (b : Bool) → AllByRecursion (IsThere (entry_in account)) m.lines
        → refuse_if LimitDate b (if_not_refused (first_uncovered (day_of_moment t) (entry_in account) m.lines) (Answered (answer.Ie029 limit m.mrn)))
        ≢ Refused NoGuarantee
    by_limit m true all is = cc
    by_limit m false all is =
        by_refusal (first_uncovered (day_of_moment t) (entry_in account) m.lines) (Answered (answer.Ie029 limit m.mrn)) (λ e. cc)
        (lines_there (day_of_moment t) (entry_in account) m.lines all) is

    by_state : (m : Movement) (o : Option State) → AllByRecursion (IsThere (entry_in account)) m.lines
        → or_refuse (WrongState m.state) o (λ state. refuse_if LimitDate (not (is_limit (day_of_moment t) limit))
        (if_not_refused (first_uncovered (day_of_moment t) (entry_in account) m.lines) (Answered (answer.Ie029 limit m.mrn))))
        ≢ Refused NoGuarantee
    by_state m None all is = cc
    by_state m (Some state) all is = by_limit m (not (is_limit (day_of_moment t) limit)) all is

    said_of : Movement → Said
    said_of m = or_refuse (WrongState m.state) (state_after m.state Release) (λ state.
        refuse_if LimitDate (not (is_limit (day_of_moment t) limit))
        (if_not_refused (first_uncovered (day_of_moment t) (entry_in account) m.lines) (Answered (answer.Ie029 limit m.mrn))))

    by_movement : (found : Option Movement) → IfSome found (λ m. AllByRecursion (IsThere (entry_in account)) m.lines)
        → or_refuse NoMovement found said_of ≢ Refused NoGuarantee
    by_movement None all is = cc
    by_movement (Some m) all is = by_state m (state_after m.state Release) all is

    by_clock : (b : Bool) → refuse_if ClockBack b (or_refuse NoMovement (movement_by_mrn mrn account.movements) said_of) ≢ Refused NoGuarantee
    by_clock true is = cc
    by_clock false is = by_movement (movement_by_mrn mrn account.movements) there is

    by_holder : (o : Option HolderRow)
        → or_refuse NoMovement o (λ row. refuse_if ClockBack (is_back t row) (or_refuse NoMovement (movement_by_mrn mrn account.movements) said_of))
        ≢ Refused NoGuarantee
    by_holder None is = cc
    by_holder (Some row) is = by_clock (is_back t row) is

-- a guarantee that is found is there with the amount in use on it
entry_there : (movements : List Movement) (o : Option Guarantee) → IsSome o
    → IsSome {T = Guarantee × ℕ} (option_map (λ g. (g, used_on g.grn movements)) o)
entry_there movements None some = cc
entry_there movements (Some g) some = refl

each_there : (country : List ℕ) (h : HolderRows) (lines : List Line) → AllByRecursion (λ l. IsSome (guarantee_by_grn l.grn h.guarantees)) lines
    → AllByRecursion (IsThere (entry_in (account_with country (Some h)))) lines
each_there country h [] all = tt
each_there country h (l ∷ lines) all = (entry_there h.movements (guarantee_by_grn l.grn h.guarantees) all.0, each_there country h lines all.1)

rows_tell : (country : List ℕ) (t : ℕ) (mrn : List ℕ) (found : Option HolderRows) → IfSome found (AreHolderRows country)
    → TellsOf (account_with country found) t mrn
rows_tell country t mrn None sound = tt
rows_tell country t mrn (Some h) sound = by_found (movement_by_mrn mrn h.movements) refl
  where
    by_found : (o : Option Movement) → movement_by_mrn mrn h.movements ≡ o
        → IfSome o (λ m. AllByRecursion (IsThere (entry_in (account_with country (Some h)))) m.lines)
    by_found None is = tt
    by_found (Some m) is =
        let row = number_found (λ (m : Movement). m.mrn) (IsMovementRow country h.row.holder h.guarantees) 0 mrn h.movements m sound.movements is in
        each_there country h m.lines row.1.lines.own

owner_tells : (rows : Content) (t : ℕ) (mrn : List ℕ) (o : Option ℕ) → IsSound rows → TellsOf (kept_for o rows) t mrn
owner_tells rows t mrn None sound = tt
owner_tells rows t mrn (Some H) sound =
    rows_tell rows.country t mrn (rows_of H rows) (All-row_at holder_key (AreHolderRows rows.country) H rows.holders sound.holders)

pub releases_find : ReleasesFindTheirGuarantees
releases_find rows at mrn limit sound =
    by_moment (moment_of at)
  where
    account : Account
    account = owner_account rows (Ie029 mrn limit)

    tells : (t : ℕ) → TellsOf account t mrn
    tells t = subst (λ a. TellsOf a t mrn) (sym (owner_account_is_kept rows (Ie029 mrn limit)))
        (owner_tells rows t mrn (owner_of rows.country (Ie029 mrn limit)) sound)

    by_moment : (o : Option ℕ) → said_in o account (Ie029 mrn limit) ≢ Refused NoGuarantee
    by_moment None is = cc
    by_moment (Some t) is = told_of account t mrn limit (tells t) is

-- so none that was weighed is told so
pub weighed_find : (rows : Content) (s : Stamped) (v : Verdict) (words : Said) → IsSound rows → IsWeighed rows s.at s.command v
    → words ≡ v.said → (mrn : List ℕ) (limit : ℕ) → s.command ≡ Ie029 mrn limit → words ≢ Refused NoGuarantee
weighed_find rows s v words sound weighed same mrn limit is told =
    let told_so : said (owner_account rows s.command) s.at s.command ≡ Refused NoGuarantee = sym weighed.said ∙ sym same ∙ told in
    releases_find rows s.at mrn limit sound (subst (λ k. said (owner_account rows k) s.at k ≡ Refused NoGuarantee) is told_so)
