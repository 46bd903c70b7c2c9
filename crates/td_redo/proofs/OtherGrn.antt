-- The second opening has another serial, and so another GRN.
use Rattle.std.proofs.Common.{◌≡◌, ◌≢◌, ℕ, ◌+◌, ◌<◌, Bool, true, false, List, Option, Some, None, refl, inl, inr, arith}
use Rattle.std.specs.Prelude.{nat_le, nat_lt, if◌then◌else◌}
use Rattle.std.proofs.lemmas.Bool.Decides.{nat_tests}
use Rattle.td_base.specs.Codes.{IsCountry, IsHolderNumber}
use Rattle.td_base.specs.Days.{moment_of}
use Rattle.td_base.specs.References.{grn_text}
use Rattle.td_base.proofs.MadeReferences.{made_apart}
use Rattle.td_guarantee.specs.declared.guarantee.Guarantee.{Guarantee}
use Rattle.td_movement.specs.declared.movement.Movement.{Movement}
use Rattle.td_commands.specs.declared.command.Command.TheVariants.{OpenGuarantee}
use Rattle.td_commands.specs.declared.said.Answer.TheVariants as answer
use Rattle.td_commands.specs.declared.said.Refusal.TheVariants.{ClockBack, SerialsSpent}
use Rattle.td_commands.specs.declared.said.Said.TheVariants.{Answered, Refused}
use Rattle.td_acts.proofs.Accepted.{opened_facts}
use Rattle.td_model.specs.Changes.{account_after}
use Rattle.td_acts.specs.Deciding.{change_in, change_of}
use Rattle.td_model.specs.declared.holder_row.HolderRow.{HolderRow}
use Rattle.td_model.specs.Account.{Account}
use Rattle.td_model.specs.Effects.{greatest_grn_given, year2_at}
use Rattle.td_model.specs.Machine.{is_accepted_at, is_accepted_in}
use Rattle.td_model.specs.Table.{is_back, said_at, said_in}
use Rattle.td_redo.specs.Laws.{AnotherGrn}
use Rattle.td_redo.specs.Second.{IsAnotherOpening}
use Rattle.td_redo.proofs.SecondTime.{not_back}

-- two serials below the greatest make two GRNs
apart : (year : ℕ) (country : List ℕ) (holder n : ℕ) → IsCountry country → IsHolderNumber holder → n + 1 < greatest_grn_given
    → grn_text year country holder (n + 1 + 1) ≢ grn_text year country holder (n + 1)
apart year country holder n form number left same =
    let serials = made_apart 6 year year country country holder holder (n + 1 + 1) (n + 1) form form number number (omega (arith, left)) (omega (arith, left)) same in
    absurd (omega (arith, serials.1))

-- what is said the second time, of the year y
second : (y : ℕ) (country : List ℕ) (holder n : ℕ) (back spent : Bool) → back ≡ false → IsCountry country → IsHolderNumber holder
    → nat_le greatest_grn_given (n + 1) ≡ spent
    → IsAnotherOpening (grn_text y country holder (n + 1))
    (if back then Refused ClockBack else (if spent then Refused SerialsSpent else Answered (answer.Opened (grn_text y country holder (n + 1 + 1)))))
second y country holder n true spent none form number is = cc
second y country holder n false true none form number is = inl refl
second y country holder n false false none form number is =
    let left : n + 1 < greatest_grn_given = grind (arith, nat_tests, is) in
    inr (grn_text y country holder (n + 1 + 1), refl, apart y country holder n form number left)

another_at : (country : List ℕ) (o : Option HolderRow) (gs : List Guarantee) (ms : List Movement) (t holder reference cover : ℕ) (code : List ℕ)
    → IsCountry country → IsHolderNumber holder
    → let a : Account = record { country = country; holder = o; guarantees = gs; movements = ms } in
    let command = OpenGuarantee holder reference cover code in
    is_accepted_at a t command ≡ true
    → (grn : List ℕ) × (said_at a t command ≡ Answered (answer.Opened grn)) × IsAnotherOpening grn (said_at (account_after (change_of a t command) a) t command)
another_at country None gs ms t holder reference cover code form number accepted = cc
another_at country (Some row) gs ms t holder reference cover code form number accepted =
    let facts = opened_facts (is_back t row) (nat_le greatest_grn_given row.grn_count) _ accepted in (
      grn_text (year2_at t) country holder (row.grn_count + 1),
      rw (facts.0, facts.1) refl,
      second (year2_at t) country holder row.grn_count (nat_lt t t) (nat_le greatest_grn_given (row.grn_count + 1)) (not_back t) form number refl,
    )

another_in : (m : Option ℕ) (a : Account) (holder reference cover : ℕ) (code : List ℕ) → IsCountry a.country → IsHolderNumber holder
    → let command = OpenGuarantee holder reference cover code in
    is_accepted_in m a command ≡ true
    → (grn : List ℕ) × (said_in m a command ≡ Answered (answer.Opened grn)) × IsAnotherOpening grn (said_in m (account_after (change_in m a command) a) command)
another_in None a holder reference cover code form number accepted = cc
another_in (Some t) a holder reference cover code form number accepted =
    rw accepted (another_at a.country a.holder a.guarantees a.movements t holder reference cover code form number accepted)

pub another_grn : AnotherGrn
another_grn account at holder reference cover code form proper accepted =
    another_in (moment_of at) account holder reference cover code form proper.0 accepted
