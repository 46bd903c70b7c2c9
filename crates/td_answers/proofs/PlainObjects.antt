-- The texts of the objects that show movements and guarantees, one and many: nothing in them is escaped.
use Rattle.std.proofs.Common.{append_assoc, ◌≡◌, ℕ, ◌/◌, List, ◌++◌, take, drop, All, Option, None, Some, IfSome, arith, refl, sym, ◌∙◌, inr}
use Rattle.std.proofs.lemmas.List.{take-append-drop}
use Rattle.std.proofs.lemmas.List.Elements.{All-append, All-same, All-weaker}
use Rattle.std.specs.Char.{IsAsciiUppercase}
use Rattle.std.specs.Prelude.{codes, decimal}
use Rattle.serde_json.specs.Data.{Data, number, unsigned, string, object, member, no_members}
use Rattle.serde_json.specs.Written.{compact_text}
use Rattle.serde_json.proofs.OnLiterals.{serde_json_on_literals}
use Rattle.td_answers.specs.Objects.{array_of, free_on, text_data, day_data, line_data, lines_data, codes_data, movement_data, guarantee_data, listed_movement_data, listed_guarantee_data, movements_data, guarantees_data, text_body, day_body, line_body, movement_body, guarantee_body, listed_movement_body, listed_guarantee_body, movements_body, guarantees_body, IsMovementTold, IsGuaranteeTold}
use Rattle.td_answers.specs.Unescaped.{in_quotes}
use Rattle.td_answers.proofs.Arrays.{written_array}
use Rattle.td_answers.proofs.Texts.{written_class, written_text}
use Rattle.td_base.specs.Codes.{IsAccessCode, IsLrn, IsOfficeNo}
use Rattle.td_base.specs.Days.{day_text, year_of, month_of, day_of}
use Rattle.td_base.specs.Digits.{fixed_decimal, IsMark}
use Rattle.td_base.specs.References.{IsGrn, IsMrn}
use Rattle.td_commands.specs.declared.lists.ListedMovement.{ListedMovement}
use Rattle.td_guarantee.specs.declared.guarantee.Guarantee.{Guarantee}
use Rattle.td_movement.specs.States.{state_name}
use Rattle.td_movement.specs.declared.line.Line.{Line}
use Rattle.td_movement.specs.declared.movement.Movement.{Movement}
use Rattle.td_movement.specs.declared.state.State.{State}
use Rattle.td_movement.specs.declared.state.State.TheVariants.{Accepted, Cancelled, Released, Enquired, Arrived, Discrepant, Cleared, WrittenOff}
use Rattle.td_base.specs.Money.{share_of}
use Rattle.td_answers.proofs.PlainText.{digit_unescaped, mark_unescaped, written_lrn, written_reference}

-- ---- texts

-- an access code is written as it is
pub written_code : (text : List ℕ) → IsAccessCode text → compact_text (string text) ≡ in_quotes text
written_code text h = written_class IsMark mark_unescaped text h.marks

-- so is the number of an office
pub written_office : (text : List ℕ) → IsOfficeNo text → compact_text (string text) ≡ in_quotes text
written_office text h =
    let letters = All-weaker IsAsciiUppercase IsMark (λ c h. inr h) (take 2 text) h.country in
    let all = All-append IsMark (take 2 text) (drop 2 text) letters h.marks in
    written_class IsMark mark_unescaped text (All-same IsMark text _ (sym (take-append-drop 2 text)) all)

-- so is the name of a state
pub written_state : (s : State) → compact_text (string (state_name s)) ≡ in_quotes (state_name s)
written_state Accepted = written_text (state_name Accepted) refl
written_state Cancelled = written_text (state_name Cancelled) refl
written_state Released = written_text (state_name Released) refl
written_state Enquired = written_text (state_name Enquired) refl
written_state Arrived = written_text (state_name Arrived) refl
written_state Discrepant = written_text (state_name Discrepant) refl
written_state Cleared = written_text (state_name Cleared) refl
written_state WrittenOff = written_text (state_name WrittenOff) refl

-- so is a day
pub written_day : (n : ℕ) → compact_text (string (day_text n)) ≡ in_quotes (day_text n)
unfolding fixed_decimal
written_day n =
    let y = year_of n in
    let m = month_of n in
    let d = day_of n in
    written_text (day_text n)
    (rw (digit_unescaped (y / 1000), digit_unescaped (y / 100), digit_unescaped (y / 10), digit_unescaped (y / 1), digit_unescaped (m / 10), digit_unescaped (m / 1), digit_unescaped (d / 10), digit_unescaped (d / 1)) refl)

-- so is an office or a day that there may be
written_office_if : (office : Option (List ℕ)) → IfSome office IsOfficeNo → compact_text (text_data office) ≡ text_body office
written_office_if None h = refl
written_office_if (Some office) h = written_office office h

written_day_if : (day : Option ℕ) → compact_text (day_data day) ≡ day_body day
written_day_if None = refl
written_day_if (Some day) = written_day day

-- ---- objects

-- an object of a number and a text
line_object : (g : Data) (tg : List ℕ) (n : ℕ) → compact_text g ≡ tg
    → compact_text (object (member (codes "cents") (number (unsigned n)) (member (codes "grn") g no_members))) ≡ codes "{\"cents\":" ++ (decimal n ++ (codes ",\"grn\":" ++ (tg ++ codes "}")))
unfolding serde_json_on_literals
line_object g tg n same = rw same refl

-- a line
pub written_line : (line : Line) → IsGrn line.grn → compact_text (line_data line) ≡ line_body line
written_line line h = line_object (string line.grn) _ line.cents (written_reference 17 line.grn (omega arith) h)

-- an object of the parts of a movement
movement_object : (accepted actual arrival departure destination limit lines lrn mrn state : Data) (accepted' actual' arrival' departure' destination' limit' lines' lrn' mrn' state' : List ℕ)
    → compact_text accepted ≡ accepted' → compact_text actual ≡ actual' → compact_text arrival ≡ arrival' → compact_text departure ≡ departure' → compact_text destination ≡ destination'
    → compact_text limit ≡ limit' → compact_text lines ≡ lines' → compact_text lrn ≡ lrn' → compact_text mrn ≡ mrn' → compact_text state ≡ state'
    → compact_text (object (member (codes "accepted") accepted (member (codes "actual") actual (member (codes "arrival") arrival (member (codes "departure") departure (member (codes "destination") destination
    (member (codes "limit") limit (member (codes "lines") lines (member (codes "lrn") lrn (member (codes "mrn") mrn (member (codes "state") state no_members)))))))))))
    ≡ codes "{\"accepted\":" ++ (accepted' ++ (codes ",\"actual\":" ++ (actual' ++ (codes ",\"arrival\":" ++ (arrival' ++ (codes ",\"departure\":" ++ (departure' ++ (codes ",\"destination\":" ++ (destination'
    ++ (codes ",\"limit\":" ++ (limit' ++ (codes ",\"lines\":" ++ (lines' ++ (codes ",\"lrn\":" ++ (lrn' ++ (codes ",\"mrn\":" ++ (mrn' ++ (codes ",\"state\":" ++ (state' ++ codes "}")))))))))))))))))))
unfolding serde_json_on_literals
movement_object a b c d e f g h i j a' b' c' d' e' f' g' h' i' j' sa sb sc sd se sf sg sh si sj = rw (sa, sb, sc, sd, se, sf, sg, sh, si, sj) refl

-- a movement whose texts have the forms of their types
pub movement_told : (m : Movement) → IsMrn m.mrn → IsLrn m.lrn → IsOfficeNo m.departure → IsOfficeNo m.destination → IfSome m.actual IsOfficeNo → All (λ (line : Line). IsGrn line.grn) m.lines
    → compact_text (movement_data m) ≡ movement_body m
movement_told m mrn lrn departure destination actual lines =
    movement_object (string (day_text m.accepted)) (text_data m.actual) (day_data m.arrival) (string m.departure) (string m.destination) (day_data m.limit) (lines_data m.lines) (string m.lrn) (string m.mrn) (string (state_name m.state)) _ _ _ _ _ _ _ _ _ _
    (written_day m.accepted) (written_office_if m.actual actual) (written_day_if m.arrival) (written_office m.departure departure) (written_office m.destination destination) (written_day_if m.limit)
    (written_array line_data line_body (λ (line : Line). IsGrn line.grn) written_line m.lines lines) (written_lrn m.lrn lrn) (written_reference 18 m.mrn (omega arith) mrn) (written_state m.state)

-- an object of the parts of a guarantee
guarantee_object : (codes_of ends grn : Data) (codes_of' ends' grn' : List ℕ) (cover free guaranteed reference used : ℕ)
    → compact_text codes_of ≡ codes_of' → compact_text ends ≡ ends' → compact_text grn ≡ grn'
    → compact_text (object (member (codes "codes") codes_of (member (codes "cover") (number (unsigned cover)) (member (codes "ends") ends (member (codes "free") (number (unsigned free)) (member (codes "grn") grn
    (member (codes "guaranteed") (number (unsigned guaranteed)) (member (codes "reference") (number (unsigned reference)) (member (codes "used") (number (unsigned used)) no_members)))))))))
    ≡ codes "{\"codes\":" ++ (codes_of' ++ (codes ",\"cover\":" ++ (decimal cover ++ (codes ",\"ends\":" ++ (ends' ++ (codes ",\"free\":" ++ (decimal free ++ (codes ",\"grn\":" ++ (grn'
    ++ (codes ",\"guaranteed\":" ++ (decimal guaranteed ++ (codes ",\"reference\":" ++ (decimal reference ++ (codes ",\"used\":" ++ (decimal used ++ codes "}")))))))))))))))
unfolding serde_json_on_literals
guarantee_object a b c a' b' c' cover free guaranteed reference used sa sb sc = rw (sa, sb, sc) refl

-- a guarantee whose texts have the forms of their types
pub guarantee_told : (g : Guarantee) (used : ℕ) → IsGrn g.grn → All IsAccessCode g.codes → compact_text (guarantee_data g used) ≡ guarantee_body g used
guarantee_told g used grn codes =
    guarantee_object (codes_data g.codes) (day_data g.ends) (string g.grn) _ _ _ _ _ _ _ _
    (written_array string in_quotes IsAccessCode written_code g.codes codes) (written_day_if g.ends) (written_reference 17 g.grn (omega arith) grn)

-- ---- lists

-- an object of two texts and a state
listed_object : (l m s : Data) (tl tm ts : List ℕ) → compact_text l ≡ tl → compact_text m ≡ tm → compact_text s ≡ ts
    → compact_text (object (member (codes "lrn") l (member (codes "mrn") m (member (codes "state") s no_members))))
    ≡ codes "{\"lrn\":" ++ (tl ++ (codes ",\"mrn\":" ++ (tm ++ (codes ",\"state\":" ++ (ts ++ codes "}")))))
unfolding serde_json_on_literals
listed_object l m s tl tm ts same_l same_m same_s = rw (same_l, same_m, same_s) refl

-- a movement in a list
pub listed_movement_told : (m : ListedMovement) → IsLrn m.lrn → IsMrn m.mrn → IsMovementTold m
listed_movement_told m lrn mrn =
    listed_object (string m.lrn) (string m.mrn) (string (state_name m.state)) _ _ _
    (written_lrn m.lrn lrn) (written_reference 18 m.mrn (omega arith) mrn) (written_state m.state)

-- objects of a list
movements_object : (l : Data) (tl : List ℕ) → compact_text l ≡ tl
    → compact_text (object (member (codes "movements") l no_members)) ≡ codes "{\"movements\":" ++ (tl ++ codes "}")
unfolding serde_json_on_literals
movements_object l tl same = rw same refl

guarantees_object : (l : Data) (tl : List ℕ) → compact_text l ≡ tl
    → compact_text (object (member (codes "guarantees") l no_members)) ≡ codes "{\"guarantees\":" ++ (tl ++ codes "}")
unfolding serde_json_on_literals
guarantees_object l tl same = rw same refl

-- movements in a list
pub movements_told : (listed : List ListedMovement) → All IsMovementTold listed → compact_text (movements_data listed) ≡ movements_body listed
movements_told listed all =
    movements_object (array_of listed_movement_data listed) _ (written_array listed_movement_data listed_movement_body IsMovementTold (λ m told. told) listed all)

-- guarantees in a list
pub guarantees_told : (listed : List (Guarantee × ℕ)) → All IsGuaranteeTold listed → compact_text (guarantees_data listed) ≡ guarantees_body listed
guarantees_told listed all =
    guarantees_object (array_of listed_guarantee_data listed) _ (written_array listed_guarantee_data listed_guarantee_body IsGuaranteeTold (λ g told. told) listed all)

-- the same text, with the quotes beside what they stand at
pub listed_movement_joined : (m : ListedMovement) → codes "{\"lrn\":\"" ++ (m.lrn ++ (codes "\",\"mrn\":\"" ++ (m.mrn ++ (codes "\",\"state\":\"" ++ (state_name m.state ++ codes "\"}"))))) ≡ listed_movement_body m
listed_movement_joined m = simp append_assoc refl

-- the text of a line so
pub line_joined : (line : Line) → codes "{\"cents\":" ++ (decimal line.cents ++ (codes ",\"grn\":\"" ++ (line.grn ++ codes "\"}"))) ≡ line_body line
line_joined line = simp append_assoc refl

-- the text of a movement so
pub movement_joined : (m : Movement) → IsMrn m.mrn → IsLrn m.lrn → IsOfficeNo m.departure → IsOfficeNo m.destination
    → codes "{\"accepted\":\"" ++ (day_text m.accepted ++ (codes "\",\"actual\":" ++ (compact_text (text_data m.actual) ++ (codes ",\"arrival\":" ++ (compact_text (day_data m.arrival)
    ++ (codes ",\"departure\":\"" ++ (m.departure ++ (codes "\",\"destination\":\"" ++ (m.destination
    ++ (codes "\",\"limit\":" ++ (compact_text (day_data m.limit) ++ (codes ",\"lines\":" ++ (compact_text (lines_data m.lines)
    ++ (codes ",\"lrn\":\"" ++ (m.lrn ++ (codes "\",\"mrn\":\"" ++ (m.mrn ++ (codes "\",\"state\":\"" ++ (state_name m.state ++ codes "\"}")))))))))))))))))))
    ≡ compact_text (movement_data m)
movement_joined m mrn lrn departure destination =
    let told =
    movement_object (string (day_text m.accepted)) (text_data m.actual) (day_data m.arrival) (string m.departure) (string m.destination) (day_data m.limit) (lines_data m.lines) (string m.lrn) (string m.mrn) (string (state_name m.state)) _ _ _ _ _ _ _ _ _ _
    (written_day m.accepted) refl refl (written_office m.departure departure) (written_office m.destination destination) refl refl (written_lrn m.lrn lrn) (written_reference 18 m.mrn (omega arith) mrn) (written_state m.state) in
    sym (told ∙ simp append_assoc refl)

-- the text of a guarantee so
pub guarantee_joined : (g : Guarantee) (used : ℕ) → IsGrn g.grn
    → codes "{\"codes\":" ++ (compact_text (codes_data g.codes) ++ (codes ",\"cover\":" ++ (decimal g.cover ++ (codes ",\"ends\":" ++ (compact_text (day_data g.ends)
    ++ (codes ",\"free\":" ++ (decimal (free_on g used) ++ (codes ",\"grn\":\"" ++ (g.grn
    ++ (codes "\",\"guaranteed\":" ++ (decimal (share_of g.reference g.cover) ++ (codes ",\"reference\":" ++ (decimal g.reference ++ (codes ",\"used\":" ++ (decimal used ++ codes "}")))))))))))))))
    ≡ compact_text (guarantee_data g used)
guarantee_joined g used grn =
    let told =
    guarantee_object (codes_data g.codes) (day_data g.ends) (string g.grn) _ _ _ _ _ _ _ _
    refl refl (written_reference 17 g.grn (omega arith) grn) in
    sym (told ∙ simp append_assoc refl)
