-- The texts of the two reports: their headers, and the fields of their lines.
use Rattle.std.specs.Prelude.{ℕ, ◌-◌, List, [], ◌∷◌, ◌++◌, length, map, replicate, codes, decimal, Option, Some, None, option_map}
use Rattle.std.specs.List.{filter_map}
use Rattle.td_base.specs.Codes.{holder_text}
use Rattle.td_base.specs.Days.{day_text}
use Rattle.td_base.specs.Money.{cents_text, share_of}
use Rattle.td_guarantee.specs.declared.guarantee.Guarantee.{Guarantee}
use Rattle.td_movement.specs.declared.movement.Movement.{Movement}
use Rattle.td_movement.specs.declared.state.State.{State}
use Rattle.td_movement.specs.declared.times.Overdue.{Overdue}
use Rattle.td_movement.specs.declared.times.Overdue.TheVariants.{Arrival, Control}
use Rattle.td_movement.specs.States.{state_name}
use Rattle.td_movement.specs.Status.{overdue}
use Rattle.td_report_pieces.specs.Layout.{report_line, report_text}
use Rattle.td_store_rows.specs.declared.movements.stored.MovementDeadlines.{MovementDeadlines}

-- spaces, where a text is short of so many places
abbrev pub padding : ℕ → List ℕ → List ℕ
padding places text = replicate (places - length text) 32

-- a text at the left of so many places, and at their right; one that is longer isn't cut
abbrev pub left_in : ℕ → List ℕ → List ℕ
left_in places text = text ++ padding places text

abbrev pub right_in : ℕ → List ℕ → List ℕ
right_in places text = padding places text ++ text

-- what is overdue, and the day on which it was due
abbrev pub kind_of : Overdue → List ℕ
kind_of (Arrival due) = codes "arrival"
kind_of (Control due) = codes "control"

abbrev pub due_day : Overdue → ℕ
due_day (Arrival due) = due
due_day (Control due) = due

-- the fields of a holder's movement, by its MRN and state, that is overdue for this on the day of the report
abbrev pub overdue_fields : ℕ → ℕ → List ℕ → State → Overdue → List (List ℕ)
overdue_fields day holder mrn state what =
    mrn ∷ holder_text holder ∷ kind_of what ∷ left_in 8 (state_name state) ∷ day_text (due_day what)
    ∷ right_in 5 (decimal (day - due_day what)) ∷ []

-- the line of a movement, if it is overdue
abbrev pub overdue_line : ℕ → ℕ × Movement → Option (List ℕ)
overdue_line day (holder, m) =
    option_map (λ what. report_line (overdue_fields day holder m.mrn m.state what)) (overdue m.state m.limit m.arrival day)

-- the same line, by the movement's deadlines alone
abbrev pub deadlines_line : ℕ → MovementDeadlines → Option (List ℕ)
deadlines_line day m =
    option_map (λ what. report_line (overdue_fields day m.holder m.mrn m.state what)) (overdue m.state m.limit m.arrival day)

abbrev pub overdue_header : ℕ → List ℕ
overdue_header day = report_line (codes "OVERDUE" ∷ day_text day ∷ [])

-- the movements of these that are overdue on a day
abbrev pub overdue_text : ℕ → List (ℕ × Movement) → List ℕ
overdue_text day movements = report_text (overdue_header day) (filter_map (overdue_line day) movements)

-- the end day of a guarantee, if it has one
abbrev pub end_text : Option ℕ → List ℕ
end_text None = codes "-"
end_text (Some day) = day_text day

-- an amount
abbrev pub amount_text : ℕ → List ℕ
amount_text cents = right_in 17 (cents_text cents)

-- the fields of a holder's guarantee, with the amount in use on it
abbrev pub guarantee_fields : ℕ × (Guarantee × ℕ) → List (List ℕ)
guarantee_fields (holder, (g, used)) =
    g.grn ∷ holder_text holder ∷ right_in 3 (decimal g.cover) ∷ amount_text g.reference
    ∷ amount_text (share_of g.reference g.cover) ∷ amount_text used ∷ amount_text (g.reference - used)
    ∷ end_text g.ends ∷ []

abbrev pub guarantee_line : ℕ × (Guarantee × ℕ) → List ℕ
guarantee_line row = report_line (guarantee_fields row)

abbrev pub guarantees_header : List ℕ
guarantees_header = report_line (codes "GUARANTEES" ∷ [])

-- these guarantees
abbrev pub guarantees_text : List (ℕ × (Guarantee × ℕ)) → List ℕ
guarantees_text rows = report_text guarantees_header (map guarantee_line rows)
