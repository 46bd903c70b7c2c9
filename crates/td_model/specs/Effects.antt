-- Serials of references.
-- Rows as they begin: of a new holder, a new guarantee and a new movement.
-- What each accepted command says in its owner's book.
use Rattle.std.specs.Prelude.{ℕ, ◌+◌, nat_le, if◌then◌else◌, List, Option, Some, None, [], ◌∷◌, ◌%◌, map}
use Rattle.td_guarantee.specs.declared.guarantee.Guarantee.{Guarantee}
use Rattle.td_movement.specs.declared.line.Line.{Line}
use Rattle.td_movement.specs.declared.movement.Movement.{Movement}
use Rattle.td_movement.specs.declared.state.State.TheVariants.{Accepted, Cancelled, Released, Enquired, Arrived, Discrepant, Cleared, WrittenOff}
use Rattle.td_model.specs.declared.holder_row.HolderRow.{HolderRow}
use Rattle.td_base.specs.Days.{day_of_moment, year_of}
use Rattle.td_base.specs.References.{grn_text, mrn_text}
use Rattle.td_movement.specs.declared.state.State.{State}
use Rattle.td_movement.specs.declared.state.Control.{Control}
use Rattle.td_movement.specs.declared.state.Control.TheVariants.{A1, A2, B1}
use Rattle.td_commands.specs.declared.command.Command.{Command}
use Rattle.td_commands.specs.declared.command.Command.TheVariants.{Register, OpenGuarantee, Amend, Revoke, Ie015, Ie014, AddCode, RemoveCode, Ie029, Ie007, Ie018, Ie045, Ie140}
use Rattle.td_model.specs.Account.{at_grn, at_mrn, coded, uncoded}
use Rattle.td_commands.specs.Lines.{line_of}

-- the greatest serial that a new guarantee is given, and a new movement
abbrev pub greatest_grn_given : ℕ
greatest_grn_given = 999999

abbrev pub greatest_mrn_given : ℕ
greatest_mrn_given = 999999

-- the serial after the last one, and the text made of it; none after the greatest
abbrev pub next_serial : ℕ → ℕ → (ℕ → List ℕ) → Option (ℕ × List ℕ)
next_serial greatest last text = if nat_le greatest last then None else Some (last + 1, text (last + 1))

-- a holder who is registered at a moment has no guarantees and no movements
abbrev pub new_holder_row : ℕ → List ℕ → ℕ → HolderRow
new_holder_row holder eori at = record {
  holder = holder;
  eori = eori;
  last_at = at;
  grn_count = 0;
  mrn_count = 0;
}

-- a guarantee that is opened has one access code and no end
abbrev pub new_guarantee : List ℕ → ℕ → ℕ → List ℕ → Guarantee
new_guarantee grn reference cover code = record {
  grn = grn;
  reference = reference;
  cover = cover;
  ends = None;
  codes = code ∷ [];
}

-- a movement that is declared on a day is accepted, and has no limit, no arrival and no actual office
abbrev pub new_movement : List ℕ → List ℕ → List ℕ → List ℕ → ℕ → List Line → Movement
new_movement mrn lrn departure destination accepted lines = record {
  mrn = mrn;
  lrn = lrn;
  departure = departure;
  destination = destination;
  accepted = accepted;
  state = Accepted;
  limit = None;
  arrival = None;
  actual = None;
  lines = lines;
}

-- the EORI under which the command registers the holder
abbrev pub eori_given : Command → Option (List ℕ)
eori_given (Register holder eori) = Some eori
eori_given command = None

-- how many guarantees the command opens
abbrev pub openings : Command → ℕ
openings (OpenGuarantee holder reference cover code) = 1
openings command = 0

-- how many movements the command declares
abbrev pub declarations : Command → ℕ
declarations (Ie015 holder lrn departure destination lines) = 1
declarations command = 0

-- the year of a moment, in two digits
abbrev pub year2_at : ℕ → ℕ
year2_at t = year_of (day_of_moment t) % 100

-- the guarantee that the command opens at moment t for holder H, after n others
abbrev pub opened_by : List ℕ → ℕ → ℕ → ℕ → Command → List Guarantee
opened_by country H n t (OpenGuarantee holder reference cover code) =
    new_guarantee (grn_text (year2_at t) country H (n + 1)) reference cover code ∷ []
opened_by country H n t command = []

-- the movement that the command declares at moment t for holder H, after n others
abbrev pub declared_by : List ℕ → ℕ → ℕ → ℕ → Command → List Movement
declared_by country H n t (Ie015 holder lrn departure destination lines) =
    new_movement (mrn_text (year2_at t) country H (n + 1)) lrn departure destination (day_of_moment t)
    (map line_of lines) ∷ []
declared_by country H n t command = []

-- the state after a control with this result
abbrev pub judged : Control → State
judged A1 = Cleared
judged A2 = Cleared
judged B1 = Discrepant

-- What a command says of the movement that it names: its state, and the days and the office that come with it.
abbrev pub movement_said : ℕ → Command → Movement → Movement
movement_said t (Ie014 holder mrn) = at_mrn mrn (λ m. record m { state = Cancelled })
movement_said t (Ie029 mrn limit) = at_mrn mrn (λ m. record m { state = Released; limit = Some limit })
movement_said t (Ie007 mrn office) =
    at_mrn mrn (λ m. record m { state = Arrived; arrival = Some (day_of_moment t); actual = Some office })
movement_said t (Ie018 mrn result) = at_mrn mrn (λ m. record m { state = judged result })
movement_said t (Ie045 mrn cause) = at_mrn mrn (λ m. record m { state = WrittenOff })
movement_said t (Ie140 mrn) = at_mrn mrn (λ m. record m { state = Enquired })
movement_said t command = λ m. m

-- the end of a guarantee that is revoked on a day: from the sixteenth day after on nothing is lodged or
-- released on it
abbrev pub end_after : ℕ → ℕ
end_after day = day + 16

-- a guarantee with another reference amount and cover
abbrev pub amended : ℕ → ℕ → Guarantee → Guarantee
amended reference cover g = record g { reference = reference; cover = cover }

-- What a command says of the guarantee that it names: its terms, its end, or one of its codes.
abbrev pub guarantee_said : ℕ → Command → Guarantee → Guarantee
guarantee_said t (Amend grn reference cover) = at_grn grn (amended reference cover)
guarantee_said t (Revoke grn) = at_grn grn (λ g. record g { ends = Some (end_after (day_of_moment t)) })
guarantee_said t (AddCode holder grn code) = at_grn grn (coded code)
guarantee_said t (RemoveCode holder grn code) = at_grn grn (uncoded code)
guarantee_said t command = λ g. g
