-- The table of refusals and answers: for each command the refusals in the order in which they are tested,
-- then the answer. It speaks of the owner's account alone; a command that nobody owns is judged over an
-- account with nothing in it.
use Rattle.std.specs.Prelude.{ℕ, ℤ, ◌+◌, nat_lt, nat_le, if◌then◌else◌, Bool, false, not, List, length, map, Option, Some, None}
use Rattle.std.specs.List.{list_any}
use Rattle.std.specs.Option.{is_some}
use Rattle.std.specs.Str.{bytes_eq}
use Rattle.td_base.specs.Days.{day_of_moment, moment_of}
use Rattle.td_base.specs.References.{grn_text, mrn_text}
use Rattle.td_movement.specs.declared.line.Line.{Line}
use Rattle.td_model.specs.declared.holder_row.HolderRow.{HolderRow}
use Rattle.td_movement.specs.declared.movement.Movement.{Movement}
use Rattle.td_guarantee.specs.Usage.{used_on}
use Rattle.td_movement.specs.States.{state_after}
use Rattle.td_movement.specs.declared.moves.Move.{Move}
use Rattle.td_movement.specs.declared.moves.Move.TheVariants.{Cancel, Release, Arrive, Judge, WriteOff, Enquire}
use Rattle.td_movement.specs.declared.state.Control.{Control}
use Rattle.td_movement.specs.declared.state.Ground.{Ground}
use Rattle.td_movement.specs.Status.{enquiry_is_open}
use Rattle.td_guarantee.specs.declared.guarantee.Guarantee.{Guarantee}
use Rattle.td_commands.specs.declared.command.Command.{Command}
use Rattle.td_commands.specs.declared.command.Command.TheVariants.{Register, OpenGuarantee, Amend, Revoke, Ie015, Ie014, AddCode, RemoveCode, Ie029, Ie007, Ie018, Ie045, Ie140, SeeHolder, SeeMovement, SeeMovements, SeeGuarantee, SeeGuarantees}
use Rattle.td_commands.specs.declared.said.Answer.TheVariants as answer
use Rattle.td_commands.specs.declared.said.Refusal.{Refusal}
use Rattle.td_commands.specs.declared.said.Refusal.TheVariants.{ClockRange, NoHolder, HolderKnown, ClockBack, NoMovement, NoGuarantee, LrnUsed, SerialsSpent, WrongState, BelowUse, LimitDate, TooEarly, CodeKnown, NoCode, LastCode, CodesFull, AlreadyEnded}
use Rattle.td_commands.specs.declared.said.Said.{Said}
use Rattle.td_commands.specs.declared.said.Said.TheVariants.{Answered, Refused}
use Rattle.td_model.specs.Account.{Account, coded, uncoded, entry_in, guarantee_by_grn, movement_by_mrn, movement_by_lrn}
use Rattle.td_commands.specs.declared.lists.ListedMovement.{ListedMovement}
use Rattle.td_model.specs.Effects.{year2_at, amended, end_after, judged, greatest_grn_given, greatest_mrn_given}
use Rattle.td_commands.specs.Lines.{line_of}
use Rattle.td_model.specs.Declaring.{has_contents, first_refusal, is_limit, first_uncovered}
use Rattle.td_guarantee.specs.Codes.{most_codes}

-- refused for this where there is nothing, else what is said of the thing that is there
abbrev pub or_refuse : {X : Type 0} → Refusal → Option X → (X → Said) → Said
or_refuse why None said_of = Refused why
or_refuse why (Some x) said_of = said_of x

-- refused for this where the test holds, else that
abbrev pub refuse_if : Refusal → Bool → Said → Said
refuse_if why test said = if test then Refused why else said

-- the moment is before the holder's own last change
abbrev pub is_back : ℕ → HolderRow → Bool
is_back t row = nat_lt t row.last_at

-- the last serial is the greatest that there is
abbrev pub is_spent : ℕ → ℕ → Bool
is_spent greatest last = nat_le greatest last

-- The LRN rule: a declaration under a known LRN is a repeat where the contents are the same, and answered
-- with its first answer, else it is refused as lrn-used. Under a new LRN it is this.
abbrev pub if_lrn_new : Option Movement → (Movement → Bool) → Said → Said
if_lrn_new None is_repeat said = said
if_lrn_new (Some m) is_repeat said =
    if is_repeat m then Answered (answer.Ie028 m.lrn m.mrn) else Refused LrnUsed

-- the refusal, else this
abbrev pub if_not_refused : Option Refusal → Said → Said
if_not_refused None said = said
if_not_refused (Some refusal) said = Refused refusal

-- A command on a guarantee of the owner's, if that one is found: refused for this where the owner isn't
-- registered, then by the clock, and where the guarantee isn't there.
abbrev pub on_guarantee : Refusal → Option HolderRow → ℕ → Option Guarantee → (Guarantee → Said) → Said
on_guarantee unregistered holder t found said_of =
    or_refuse unregistered holder (λ row.
    refuse_if ClockBack (is_back t row)
    (or_refuse NoGuarantee found said_of))

-- A command that moves a movement of the owner's, if that one is found: refused for this where the owner isn't
-- registered, then by the clock, where the movement isn't there, and where its state doesn't have the move.
abbrev pub on_movement : Refusal → Option HolderRow → ℕ → Option Movement → Move → (Movement → Said) → Said
on_movement unregistered holder t found to said_of =
    or_refuse unregistered holder (λ row.
    refuse_if ClockBack (is_back t row)
    (or_refuse NoMovement found (λ m.
    or_refuse (WrongState m.state) (state_after m.state to) (λ state. said_of m))))

-- an access code is one of these
abbrev pub stands : List ℕ → List (List ℕ) → Bool
stands code codes = list_any (λ c. bytes_eq c code) codes

-- an arrival on that day is after the limit
abbrev pub is_late : Option ℕ → ℕ → Bool
is_late None day = false
is_late (Some limit) day = nat_lt limit day

-- an office may ask after a movement with that limit on that day
abbrev pub may_be_asked_after : Option ℕ → ℕ → Bool
may_be_asked_after None day = false
may_be_asked_after (Some limit) day = enquiry_is_open limit day

-- a movement as a list shows it
abbrev pub listed : Movement → ListedMovement
listed m = record { lrn = m.lrn; mrn = m.mrn; state = m.state }

-- Registration (an act of the office): refused where the number is registered; a new holder has no
-- guarantees and no movements.
abbrev pub said_on_register : Account → ℕ → List ℕ → Said
said_on_register account holder eori =
    refuse_if HolderKnown (is_some account.holder)
    (Answered (answer.Holder holder eori 0 0))

-- The opening of a guarantee (an act of the office): its GRN has the year of the moment and the holder's
-- next serial.
abbrev pub said_on_open : Account → ℕ → ℕ → Said
said_on_open account t holder =
    or_refuse NoHolder account.holder (λ row.
    refuse_if ClockBack (is_back t row)
    (refuse_if SerialsSpent (is_spent greatest_grn_given row.grn_count)
    (Answered (answer.Opened (grn_text (year2_at t) account.country holder (row.grn_count + 1))))))

-- The amendment of a guarantee (an act of the office): never below what is in use.
abbrev pub said_on_amend : Account → ℕ → List ℕ → ℕ → ℕ → Said
said_on_amend account t grn reference cover =
    on_guarantee NoGuarantee account.holder t (guarantee_by_grn grn account.guarantees) (λ g.
    let used = used_on g.grn account.movements in
    refuse_if (BelowUse used) (nat_lt reference used)
    (Answered (answer.Guarantee (amended reference cover g) used)))

-- The revocation of a guarantee (an act of the office): once.
abbrev pub said_on_revoke : Account → ℕ → List ℕ → Said
said_on_revoke account t grn =
    on_guarantee NoGuarantee account.holder t (guarantee_by_grn grn account.guarantees) (λ g.
    refuse_if AlreadyEnded (is_some g.ends)
    (Answered (answer.Revoked (end_after (day_of_moment t)) g.grn)))

-- A declaration (IE015): answered with the MRN of the year of the moment and the holder's next serial (IE028).
abbrev pub said_on_ie015 : Account → ℕ → ℕ → List ℕ → List ℕ → List ℕ → List (Line × List ℕ) → Said
said_on_ie015 account t holder lrn departure destination lines =
    or_refuse NoHolder account.holder (λ row.
    refuse_if ClockBack (is_back t row)
    (if_lrn_new (movement_by_lrn lrn account.movements) (has_contents departure destination (map line_of lines))
    (refuse_if SerialsSpent (is_spent greatest_mrn_given row.mrn_count)
    (if_not_refused (first_refusal (day_of_moment t) account.guarantees lines)
    (Answered (answer.Ie028 lrn (mrn_text (year2_at t) account.country holder (row.mrn_count + 1))))))))

-- The holder's request to cancel a declaration (IE014): only before the release.
abbrev pub said_on_ie014 : Account → ℕ → List ℕ → Said
said_on_ie014 account t mrn =
    on_movement NoHolder account.holder t (movement_by_mrn mrn account.movements) Cancel (λ m.
    Answered (answer.Ie014 m.mrn))

-- An access code that a holder adds to a guarantee: a new one, and the twentieth is the last.
abbrev pub said_on_add_code : Account → ℕ → List ℕ → List ℕ → Said
said_on_add_code account t grn code =
    on_guarantee NoHolder account.holder t (guarantee_by_grn grn account.guarantees) (λ g.
    refuse_if CodeKnown (stands code g.codes)
    (refuse_if CodesFull (nat_le most_codes (length g.codes))
    (Answered (answer.Guarantee (coded code g) (used_on g.grn account.movements)))))

-- An access code that a holder takes from a guarantee: one of its codes, and not the only one.
abbrev pub said_on_remove_code : Account → ℕ → List ℕ → List ℕ → Said
said_on_remove_code account t grn code =
    on_guarantee NoHolder account.holder t (guarantee_by_grn grn account.guarantees) (λ g.
    refuse_if NoCode (not (stands code g.codes))
    (refuse_if LastCode (nat_le (length g.codes) 1)
    (Answered (answer.Guarantee (uncoded code g) (used_on g.grn account.movements)))))

-- A release for transit (IE029): the limit, and then the lines in their order.
abbrev pub said_on_ie029 : Account → ℕ → List ℕ → ℕ → Said
said_on_ie029 account t mrn limit =
    on_movement NoMovement account.holder t (movement_by_mrn mrn account.movements) Release (λ m.
    refuse_if LimitDate (not (is_limit (day_of_moment t) limit))
    (if_not_refused (first_uncovered (day_of_moment t) (entry_in account) m.lines)
    (Answered (answer.Ie029 limit m.mrn))))

-- An arrival (IE007), answered by the arrival advice (IE006).
abbrev pub said_on_ie007 : Account → ℕ → List ℕ → Said
said_on_ie007 account t mrn =
    on_movement NoMovement account.holder t (movement_by_mrn mrn account.movements) Arrive (λ m.
    Answered (answer.Ie006 (is_late m.limit (day_of_moment t)) m.mrn))

-- The result of control at destination (IE018).
abbrev pub said_on_ie018 : Account → ℕ → List ℕ → Control → Said
said_on_ie018 account t mrn result =
    on_movement NoMovement account.holder t (movement_by_mrn mrn account.movements) (Judge result) (λ m.
    Answered (answer.Ie018 m.mrn (judged result)))

-- A write-off (IE045).
abbrev pub said_on_ie045 : Account → ℕ → List ℕ → Ground → Said
said_on_ie045 account t mrn cause =
    on_movement NoMovement account.holder t (movement_by_mrn mrn account.movements) (WriteOff cause) (λ m.
    Answered (answer.Ie045 m.mrn))

-- A request on a movement that has not arrived (IE140): from the seventh day after the limit on.
abbrev pub said_on_ie140 : Account → ℕ → List ℕ → Said
said_on_ie140 account t mrn =
    on_movement NoMovement account.holder t (movement_by_mrn mrn account.movements) Enquire (λ m.
    refuse_if TooEarly (not (may_be_asked_after m.limit (day_of_moment t)))
    (Answered (answer.Ie140 m.mrn)))

-- A view of a holder: the EORI and the holder's own counts.
abbrev pub said_on_see_holder : Account → Said
said_on_see_holder account =
    or_refuse NoHolder account.holder (λ row.
    Answered (answer.Holder row.holder row.eori row.grn_count row.mrn_count))

-- A view of one of the holder's movements, by its MRN.
abbrev pub said_on_see_movement : Account → List ℕ → Said
said_on_see_movement account mrn =
    or_refuse NoHolder account.holder (λ row.
    or_refuse NoMovement (movement_by_mrn mrn account.movements) (λ m. Answered (answer.Movement m)))

-- A view of all of the holder's movements, by serial.
abbrev pub said_on_see_movements : Account → Said
said_on_see_movements account =
    or_refuse NoHolder account.holder (λ row. Answered (answer.Movements (map listed account.movements)))

-- A view of one of the holder's guarantees, by its GRN: its terms and codes, and the amount in use on it.
abbrev pub said_on_see_guarantee : Account → List ℕ → Said
said_on_see_guarantee account grn =
    or_refuse NoHolder account.holder (λ row.
    or_refuse NoGuarantee (guarantee_by_grn grn account.guarantees)
    (λ g. Answered (answer.Guarantee g (used_on g.grn account.movements))))

-- A view of all of the holder's guarantees, by serial, and the amounts in use on them.
abbrev pub said_on_see_guarantees : Account → Said
said_on_see_guarantees account =
    or_refuse NoHolder account.holder (λ row.
    Answered (answer.Guarantees (map (λ g. (g, used_on g.grn account.movements)) account.guarantees)))

-- what is said at a moment
abbrev pub said_at : Account → ℕ → Command → Said
said_at account t (Register holder eori) = said_on_register account holder eori
said_at account t (OpenGuarantee holder reference cover code) = said_on_open account t holder
said_at account t (Amend grn reference cover) = said_on_amend account t grn reference cover
said_at account t (Revoke grn) = said_on_revoke account t grn
said_at account t (Ie015 holder lrn departure destination lines) =
    said_on_ie015 account t holder lrn departure destination lines
said_at account t (Ie014 holder mrn) = said_on_ie014 account t mrn
said_at account t (AddCode holder grn code) = said_on_add_code account t grn code
said_at account t (RemoveCode holder grn code) = said_on_remove_code account t grn code
said_at account t (Ie029 mrn limit) = said_on_ie029 account t mrn limit
said_at account t (Ie007 mrn office) = said_on_ie007 account t mrn
said_at account t (Ie018 mrn result) = said_on_ie018 account t mrn result
said_at account t (Ie045 mrn cause) = said_on_ie045 account t mrn cause
said_at account t (Ie140 mrn) = said_on_ie140 account t mrn
said_at account t (SeeHolder holder) = said_on_see_holder account
said_at account t (SeeMovement holder mrn) = said_on_see_movement account mrn
said_at account t (SeeMovements holder) = said_on_see_movements account
said_at account t (SeeGuarantee holder grn) = said_on_see_guarantee account grn
said_at account t (SeeGuarantees holder) = said_on_see_guarantees account

-- what is said at a moment, where the clock shows one
abbrev pub said_in : Option ℕ → Account → Command → Said
said_in None account command = Refused ClockRange
said_in (Some t) account command = said_at account t command

-- what is said at that number of seconds since 1970
abbrev pub said : Account → ℤ → Command → Said
said account at command = said_in (moment_of at) account command
