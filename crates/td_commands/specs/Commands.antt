-- Commands: whose they are, what their parts keep to, and what the verdict on them needs of their owners'
-- accounts, beside the holder's own row.
-- The names of refusals, as replies and result files show them.
use Rattle.std.specs.Prelude.{ℕ, Bool, true, List, Option, Some, false, codes}
use Rattle.td_movement.specs.declared.line.Line.{Line}
use Rattle.td_base.specs.Codes.{IsHolderNumber, IsEori, IsAccessCode, IsLrn, IsOfficeNo}
use Rattle.td_base.specs.Days.{IsDay}
use Rattle.td_base.specs.Money.{IsReference, IsCover}
use Rattle.td_base.specs.References.{IsGrn, IsMrn, owner_of as reference_owner}
use Rattle.td_commands.specs.declared.command.Command.{Command}
use Rattle.td_commands.specs.declared.command.Command.TheVariants.{Register, OpenGuarantee, Amend, Revoke, Ie015, Ie014, AddCode, RemoveCode, Ie029, Ie007, Ie018, Ie045, Ie140, SeeHolder, SeeMovement, SeeMovements, SeeGuarantee, SeeGuarantees}
use Rattle.td_commands.specs.declared.command.Subject.{Subject}
use Rattle.td_commands.specs.declared.command.Subject.TheVariants.{Holder, Movement, Guarantee}
use Rattle.td_commands.specs.declared.needs.Needs.{Needs}
use Rattle.td_commands.specs.Lines.{IsLines}
use Rattle.td_commands.specs.declared.said.Refusal.{Refusal}
use Rattle.td_commands.specs.declared.said.Refusal.TheVariants.{ClockRange, NoHolder, HolderKnown, ClockBack, NoMovement, NoGuarantee, BadCode, GuaranteeEnded, LrnUsed, SerialsSpent, WrongState, OverReference, BelowUse, LimitDate, TooEarly, CodeKnown, NoCode, LastCode, CodesFull, AlreadyEnded}
use Rattle.td_commands.specs.declared.needs.Needs.TheVariants as needs

-- the holder whom a subject belongs to, at a desk of that country: read from a reference's text alone
abbrev pub owner_of_subject : List ℕ → Subject → Option ℕ
owner_of_subject country (Holder holder) = Some holder
owner_of_subject country (Movement mrn) = reference_owner country mrn
owner_of_subject country (Guarantee grn) = reference_owner country grn

-- what a command is about: its holder, or the movement or guarantee that an office acts on
abbrev pub subject_of : Command → Subject
subject_of (Register holder eori) = Holder holder
subject_of (OpenGuarantee holder reference cover code) = Holder holder
subject_of (Amend grn reference cover) = Guarantee grn
subject_of (Revoke grn) = Guarantee grn
subject_of (Ie015 holder lrn departure destination lines) = Holder holder
subject_of (Ie014 holder mrn) = Holder holder
subject_of (AddCode holder grn code) = Holder holder
subject_of (RemoveCode holder grn code) = Holder holder
subject_of (Ie029 mrn limit) = Movement mrn
subject_of (Ie007 mrn office) = Movement mrn
subject_of (Ie018 mrn result) = Movement mrn
subject_of (Ie045 mrn cause) = Movement mrn
subject_of (Ie140 mrn) = Movement mrn
subject_of (SeeHolder holder) = Holder holder
subject_of (SeeMovement holder mrn) = Holder holder
subject_of (SeeMovements holder) = Holder holder
subject_of (SeeGuarantee holder grn) = Holder holder
subject_of (SeeGuarantees holder) = Holder holder

-- the holder whose command it is: the holder field, else the owner of the reference that it names
abbrev pub owner_of : List ℕ → Command → Option ℕ
owner_of country command = owner_of_subject country (subject_of command)

-- the command changes something where it is answered, and isn't a repeat; the others are views
abbrev pub is_changing : Command → Bool
is_changing (Register holder eori) = true
is_changing (OpenGuarantee holder reference cover code) = true
is_changing (Amend grn reference cover) = true
is_changing (Revoke grn) = true
is_changing (Ie015 holder lrn departure destination lines) = true
is_changing (Ie014 holder mrn) = true
is_changing (AddCode holder grn code) = true
is_changing (RemoveCode holder grn code) = true
is_changing (Ie029 mrn limit) = true
is_changing (Ie007 mrn office) = true
is_changing (Ie018 mrn result) = true
is_changing (Ie045 mrn cause) = true
is_changing (Ie140 mrn) = true
is_changing (SeeHolder holder) = false
is_changing (SeeMovement holder mrn) = false
is_changing (SeeMovements holder) = false
is_changing (SeeGuarantee holder grn) = false
is_changing (SeeGuarantees holder) = false

-- its parts are in the ranges of their types
abbrev pub IsProper : Command → Type 0
IsProper (Register holder eori) = IsHolderNumber holder × IsEori eori
IsProper (OpenGuarantee holder reference cover code) =
    IsHolderNumber holder × IsReference reference × IsCover cover × IsAccessCode code
IsProper (Amend grn reference cover) = IsGrn grn × IsReference reference × IsCover cover
IsProper (Revoke grn) = IsGrn grn
IsProper (Ie015 holder lrn departure destination lines) =
    IsHolderNumber holder × IsLrn lrn × IsOfficeNo departure × IsOfficeNo destination × IsLines lines
IsProper (Ie014 holder mrn) = IsHolderNumber holder × IsMrn mrn
IsProper (AddCode holder grn code) = IsHolderNumber holder × IsGrn grn × IsAccessCode code
IsProper (RemoveCode holder grn code) = IsHolderNumber holder × IsGrn grn × IsAccessCode code
IsProper (Ie029 mrn limit) = IsMrn mrn × IsDay limit
IsProper (Ie007 mrn office) = IsMrn mrn × IsOfficeNo office
IsProper (Ie018 mrn result) = IsMrn mrn
IsProper (Ie045 mrn cause) = IsMrn mrn
IsProper (Ie140 mrn) = IsMrn mrn
IsProper (SeeHolder holder) = IsHolderNumber holder
IsProper (SeeMovement holder mrn) = IsHolderNumber holder × IsMrn mrn
IsProper (SeeMovements holder) = IsHolderNumber holder
IsProper (SeeGuarantee holder grn) = IsHolderNumber holder × IsGrn grn
IsProper (SeeGuarantees holder) = IsHolderNumber holder

-- What is needed beside the holder's row: nothing; a movement by its LRN and the guarantees of lines; a movement
-- by its MRN, with its lines, without them, or with them, their guarantees and the amounts in use on these; all
-- movements without lines; a guarantee and the amount in use on it; all guarantees and the amounts in use on them.
pub data Need : Type 0 where
  nothing : Need
  lodging : List ℕ → List (Line × List ℕ) → Need
  movement : List ℕ → Need
  status : List ℕ → Need
  release : List ℕ → Need
  all_movements : Need
  guarantee : List ℕ → Need
  all_guarantees : Need

-- what a command needs
abbrev pub need_of : Command → Need
need_of (Register holder eori) = nothing
need_of (OpenGuarantee holder reference cover code) = nothing
need_of (Amend grn reference cover) = guarantee grn
need_of (Revoke grn) = guarantee grn
need_of (Ie015 holder lrn departure destination lines) = lodging lrn lines
need_of (Ie014 holder mrn) = status mrn
need_of (AddCode holder grn code) = guarantee grn
need_of (RemoveCode holder grn code) = guarantee grn
need_of (Ie029 mrn limit) = release mrn
need_of (Ie007 mrn office) = status mrn
need_of (Ie018 mrn result) = status mrn
need_of (Ie045 mrn cause) = status mrn
need_of (Ie140 mrn) = status mrn
need_of (SeeHolder holder) = nothing
need_of (SeeMovement holder mrn) = movement mrn
need_of (SeeMovements holder) = all_movements
need_of (SeeGuarantee holder grn) = guarantee grn
need_of (SeeGuarantees holder) = all_guarantees

-- what the code's value says
abbrev pub need_said : Needs → Need
need_said needs.Nothing = nothing
need_said (needs.Lodging lrn lines) = lodging lrn lines.now
need_said (needs.Movement mrn) = movement mrn
need_said (needs.Status mrn) = status mrn
need_said (needs.Release mrn) = release mrn
need_said needs.AllMovements = all_movements
need_said (needs.Guarantee grn) = guarantee grn
need_said needs.AllGuarantees = all_guarantees

abbrev pub refusal_name : Refusal → List ℕ
refusal_name ClockRange = codes "clock-range"
refusal_name NoHolder = codes "no-holder"
refusal_name HolderKnown = codes "holder-known"
refusal_name ClockBack = codes "clock-back"
refusal_name NoMovement = codes "no-movement"
refusal_name NoGuarantee = codes "no-guarantee"
refusal_name BadCode = codes "bad-code"
refusal_name GuaranteeEnded = codes "guarantee-ended"
refusal_name LrnUsed = codes "lrn-used"
refusal_name SerialsSpent = codes "serials-spent"
refusal_name (WrongState state) = codes "wrong-state"
refusal_name (OverReference free grn) = codes "over-reference"
refusal_name (BelowUse used) = codes "below-use"
refusal_name LimitDate = codes "limit-date"
refusal_name TooEarly = codes "too-early"
refusal_name CodeKnown = codes "code-known"
refusal_name NoCode = codes "no-code"
refusal_name LastCode = codes "last-code"
refusal_name CodesFull = codes "codes-full"
refusal_name AlreadyEnded = codes "already-ended"
