-- What JSON shows of values that there may be, and of values in a row.
-- The JSON objects that show movements and guarantees, one and many, and their texts.
-- Keys stand in ascending order of bytes.
use Rattle.std.specs.Prelude.{List, map, Option, None, Some, ◌≡◌, ℕ, ◌-◌, Bool, true, false, ◌++◌, codes, decimal}
use Rattle.serde_json.specs.Data.{Data, null, array, number, unsigned, string, object, member, no_members}
use Rattle.serde_json.specs.View.{items_of}
use Rattle.td_answers.specs.Unescaped.{in_brackets, in_quotes}
use Rattle.serde_json.specs.Written.{compact_text}
use Rattle.td_base.specs.Days.{day_text}
use Rattle.td_base.specs.Money.{share_of}
use Rattle.td_commands.specs.declared.lists.ListedMovement.{ListedMovement}
use Rattle.td_guarantee.specs.declared.guarantee.Guarantee.{Guarantee}
use Rattle.td_movement.specs.States.{state_name}
use Rattle.td_movement.specs.declared.line.Line.{Line}
use Rattle.td_movement.specs.declared.movement.Movement.{Movement}

-- a value that there may be
abbrev pub shown_or_null : {X : Type 0} → (X → Data) → Option X → Data
shown_or_null shows None = null
shown_or_null shows (Some x) = shows x

-- values in their order
abbrev pub array_of : {X : Type 0} → (X → Data) → List X → Data
array_of shows xs = array (items_of (map shows xs))

-- what is left of a guarantee's reference amount beside what is in use
abbrev pub free_on : Guarantee → ℕ → ℕ
free_on g used = g.reference - used

-- ---- the objects

-- a text that there may be
abbrev pub text_data : Option (List ℕ) → Data
text_data = shown_or_null string

-- a day that there may be
abbrev pub day_data : Option ℕ → Data
day_data = shown_or_null (λ day. string (day_text day))

-- a line of a movement
abbrev pub line_data : Line → Data
line_data line =
    object (member (codes "cents") (number (unsigned line.cents))
    (member (codes "grn") (string line.grn) no_members))

-- lines, in their order
abbrev pub lines_data : List Line → Data
lines_data = array_of line_data

-- access codes, in their order
abbrev pub codes_data : List (List ℕ) → Data
codes_data = array_of string

-- a movement
abbrev pub movement_data : Movement → Data
movement_data m =
    object (member (codes "accepted") (string (day_text m.accepted))
    (member (codes "actual") (text_data m.actual)
    (member (codes "arrival") (day_data m.arrival)
    (member (codes "departure") (string m.departure)
    (member (codes "destination") (string m.destination)
    (member (codes "limit") (day_data m.limit)
    (member (codes "lines") (lines_data m.lines)
    (member (codes "lrn") (string m.lrn)
    (member (codes "mrn") (string m.mrn)
    (member (codes "state") (string (state_name m.state)) no_members))))))))))

-- a guarantee, and the amount in use on it
abbrev pub guarantee_data : Guarantee → ℕ → Data
guarantee_data g used =
    object (member (codes "codes") (codes_data g.codes)
    (member (codes "cover") (number (unsigned g.cover))
    (member (codes "ends") (day_data g.ends)
    (member (codes "free") (number (unsigned (free_on g used)))
    (member (codes "grn") (string g.grn)
    (member (codes "guaranteed") (number (unsigned (share_of g.reference g.cover)))
    (member (codes "reference") (number (unsigned g.reference))
    (member (codes "used") (number (unsigned used)) no_members))))))))

-- a movement in a list: its references, and its state
abbrev pub listed_movement_data : ListedMovement → Data
listed_movement_data m =
    object (member (codes "lrn") (string m.lrn)
    (member (codes "mrn") (string m.mrn)
    (member (codes "state") (string (state_name m.state)) no_members)))

-- movements in a list, in their order
abbrev pub movements_data : List ListedMovement → Data
movements_data listed = object (member (codes "movements") (array_of listed_movement_data listed) no_members)

-- a guarantee in a list, as it is shown alone, and the amount in use on it
abbrev pub listed_guarantee_data : Guarantee × ℕ → Data
listed_guarantee_data listed = guarantee_data listed.0 listed.1

-- guarantees in a list, in their order
abbrev pub guarantees_data : List (Guarantee × ℕ) → Data
guarantees_data listed = object (member (codes "guarantees") (array_of listed_guarantee_data listed) no_members)

-- ---- their texts, in which nothing is escaped

-- whether it is so
abbrev pub truth_body : Bool → List ℕ
truth_body true = codes "true"
truth_body false = codes "false"

-- a text that there may be
abbrev pub text_body : Option (List ℕ) → List ℕ
text_body None = codes "null"
text_body (Some text) = in_quotes text

-- a day that there may be
abbrev pub day_body : Option ℕ → List ℕ
day_body None = codes "null"
day_body (Some day) = in_quotes (day_text day)

-- a line of a movement
abbrev pub line_body : Line → List ℕ
line_body line = codes "{\"cents\":" ++ (decimal line.cents ++ (codes ",\"grn\":" ++ (in_quotes line.grn ++ codes "}")))

-- a movement
abbrev pub movement_body : Movement → List ℕ
movement_body m =
    codes "{\"accepted\":" ++ (in_quotes (day_text m.accepted)
    ++ (codes ",\"actual\":" ++ (text_body m.actual
    ++ (codes ",\"arrival\":" ++ (day_body m.arrival
    ++ (codes ",\"departure\":" ++ (in_quotes m.departure
    ++ (codes ",\"destination\":" ++ (in_quotes m.destination
    ++ (codes ",\"limit\":" ++ (day_body m.limit
    ++ (codes ",\"lines\":" ++ (in_brackets (map line_body m.lines)
    ++ (codes ",\"lrn\":" ++ (in_quotes m.lrn
    ++ (codes ",\"mrn\":" ++ (in_quotes m.mrn
    ++ (codes ",\"state\":" ++ (in_quotes (state_name m.state) ++ codes "}")))))))))))))))))))

-- a guarantee, and the amount in use on it
abbrev pub guarantee_body : Guarantee → ℕ → List ℕ
guarantee_body g used =
    codes "{\"codes\":" ++ (in_brackets (map in_quotes g.codes)
    ++ (codes ",\"cover\":" ++ (decimal g.cover
    ++ (codes ",\"ends\":" ++ (day_body g.ends
    ++ (codes ",\"free\":" ++ (decimal (free_on g used)
    ++ (codes ",\"grn\":" ++ (in_quotes g.grn
    ++ (codes ",\"guaranteed\":" ++ (decimal (share_of g.reference g.cover)
    ++ (codes ",\"reference\":" ++ (decimal g.reference
    ++ (codes ",\"used\":" ++ (decimal used ++ codes "}")))))))))))))))

-- a movement in a list
abbrev pub listed_movement_body : ListedMovement → List ℕ
listed_movement_body m =
    codes "{\"lrn\":" ++ (in_quotes m.lrn
    ++ (codes ",\"mrn\":" ++ (in_quotes m.mrn
    ++ (codes ",\"state\":" ++ (in_quotes (state_name m.state) ++ codes "}")))))

-- nothing in it is escaped
abbrev pub IsMovementTold : ListedMovement → Type 0
IsMovementTold m = compact_text (listed_movement_data m) ≡ listed_movement_body m

-- movements in a list
abbrev pub movements_body : List ListedMovement → List ℕ
movements_body listed = codes "{\"movements\":" ++ (in_brackets (map listed_movement_body listed) ++ codes "}")

-- a guarantee in a list
abbrev pub listed_guarantee_body : Guarantee × ℕ → List ℕ
listed_guarantee_body listed = guarantee_body listed.0 listed.1

-- nothing in it is escaped
abbrev pub IsGuaranteeTold : Guarantee × ℕ → Type 0
IsGuaranteeTold listed = compact_text (listed_guarantee_data listed) ≡ listed_guarantee_body listed

-- guarantees in a list
abbrev pub guarantees_body : List (Guarantee × ℕ) → List ℕ
guarantees_body listed = codes "{\"guarantees\":" ++ (in_brackets (map listed_guarantee_body listed) ++ codes "}")
