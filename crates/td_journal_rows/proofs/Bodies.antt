-- The body of each request is read as the rest of its command.
use Rattle.std.proofs.Common.{◌≡◌, ℕ, ◌^◌, ◌<◌, ◌≤◌, true, List, [], ◌∷◌, ◌++◌, All, Option, Some, Ok, Result, codes, decimal, refl, sym, ap, ap₂, ◌∙◌, arith, inl, inr, append_assoc, option_map}
use Rattle.std.proofs.lemmas.List.Elements.{All-head, All-nil, All-tail}
use Rattle.std.specs.List.{AllByRecursion, list_all}
use Rattle.std.specs.Prelude.{flat_map, ok_or, option_and_then}
use Rattle.json.specs.Tree as tree
use Rattle.serde_json.specs.Data.{unsigned, Data, number, string, array, object, Items, no_items, item, Members, no_members, member}
use Rattle.serde_json.specs.Read.{of_items, of_json}
use Rattle.serde_json.specs.Written.{compact_text, items_outline, items_text, outline}
use Rattle.serde_json.proofs.Numbers.{number_of-decimal}
use Rattle.serde_json.proofs.OnLiterals.{serde_json_on_literals}
use Rattle.td_base.specs.Codes.{IsAccessCode, code_read, eori_read, lrn_read, office_read}
use Rattle.td_base.specs.Days.{day_read, day_text}
use Rattle.td_base.specs.Money.{IsCover, IsReference, cover_of, reference_of}
use Rattle.td_base.specs.References.{IsGrn}
use Rattle.td_movement.specs.States.{control_name, ground_name}
use Rattle.td_movement.specs.declared.line.Line.{Line}
use Rattle.td_movement.specs.declared.state.Control.{Control}
use Rattle.td_movement.specs.declared.state.Control.TheVariants.{A1, A2, B1}
use Rattle.td_movement.specs.declared.state.Ground.{Ground}
use Rattle.td_movement.specs.declared.state.Ground.TheVariants.{Results, Proof}
use Rattle.td_commands.specs.Commands.{IsProper}
use Rattle.td_commands.specs.Lines.{IsLineAmount, lines_of}
use Rattle.td_commands.specs.declared.command.Command.{Command}
use Rattle.td_commands.specs.declared.command.Command.TheVariants as command
use Rattle.td_fields.specs.Bodies.{number_field, object_of, terms_of, text_field}
use Rattle.td_fields.specs.BodyFields.{control_read, ground_read, line_in, lines_at, lines_of_body, number_at, text_at}
use Rattle.td_fields.specs.Faults.{◌>>=◌, field_name}
use Rattle.td_fields.specs.declared.fault.Field.{Field}
use Rattle.td_fields.specs.declared.fault.Field.TheVariants as field
use Rattle.td_fields.specs.declared.fault.WebFault.{WebFault}
use Rattle.td_fields.specs.declared.fault.WebFault.TheVariants.{BadField}
use Rattle.td_routes.specs.Bodies.{command_at}
use Rattle.td_journal_rows.specs.Requests.{amendment_text, declaration_text, opening_text, HasFormedLines, IsFormedLine, IsLimitRead, later_line, line_text, lines_text, request_body}
use Rattle.td_journal_rows.proofs.Paths.{route_for}
use Rattle.td_journal_rows.proofs.Plain.{IsShown, IsPlain, is_plain, code_plain, day_plain, eori_plain, lrn_text_plain, office_plain, plain_text, escape_plain, quoted_plain, reference_plain}
use Rattle.td_journal_rows.proofs.Readings.{cents_read, code_reads, cover_reads, eori_reads, lines_read, lrn_reads, office_reads, reference_is, reference_reads}
use Rattle.td_journal_rows.proofs.Written.{AreSimple, IsSimple, object_is, shown_body}

-- ---- steps of a reading

then_ok : {A B : Type 0} (r : Result A WebFault) (v : A) (next : A → Result B WebFault) (w : Result B WebFault) → r ≡ Ok v → next v ≡ w → (r >>= next) ≡ w
then_ok r v next w is more = ap (λ r. r >>= next) is ∙ more

text_is : {T : Type 0} (name : Field) (read : List ℕ → Option T) (d : Data) (text : List ℕ) (v : T) → text_at (field_name name) d ≡ Some text → read text ≡ Some v → text_field name read d ≡ Ok v
text_is name read d text v there reads = ap (λ o. ok_or (option_and_then read o) (BadField name)) there ∙ ap (λ o. ok_or o (BadField name)) reads

number_is : (name : Field) (read : ℕ → Option ℕ) (d : Data) (n : ℕ) → number_at (field_name name) d ≡ Some n → read n ≡ Some n → number_field name read d ≡ Ok n
number_is name read d n there reads = ap (λ o. ok_or (option_and_then read o) (BadField name)) there ∙ ap (λ o. ok_or o (BadField name)) reads

-- ---- names

control_plain : (control : Control) → All IsPlain (control_name control)
control_plain A1 = plain_text (control_name A1) refl
control_plain A2 = plain_text (control_name A2) refl
control_plain B1 = plain_text (control_name B1) refl

control_reads : (control : Control) → control_read (control_name control) ≡ Some control
control_reads A1 = refl
control_reads A2 = refl
control_reads B1 = refl

ground_plain : (g : Ground) → All IsPlain (ground_name g)
ground_plain Results = plain_text (ground_name Results) refl
ground_plain Proof = plain_text (ground_name Proof) refl

ground_reads : (g : Ground) → ground_read (ground_name g) ≡ Some g
ground_reads Results = refl
ground_reads Proof = refl

-- a literal key
key : (text : List ℕ) → list_all is_plain text ≡ true → All IsPlain text
key text h = plain_text text h

-- ---- a body with one text

abbrev one_text : List ℕ → List ℕ → Data
one_text k text = object (member k (string text) no_members)

one_text_written : (k text : List ℕ) → All IsPlain k → All IsPlain text → compact_text (one_text k text) ≡ 123 ∷ (34 ∷ (k ++ 34 ∷ [])) ++ 58 ∷ 34 ∷ (text ++ 34 ∷ 125 ∷ [])
one_text_written k text plain_k plain =
    rw (escape_plain k plain_k, escape_plain text plain) (ap (λ (rest : List ℕ). 123 ∷ (34 ∷ (k ++ 34 ∷ [])) ++ 58 ∷ 34 ∷ rest) (append_assoc text (34 ∷ []) (125 ∷ [])))

-- the object that it is
one_text_is : (k text : List ℕ) → All IsPlain k → All IsPlain text → object_of (123 ∷ (34 ∷ (k ++ 34 ∷ [])) ++ 58 ∷ 34 ∷ (text ++ 34 ∷ 125 ∷ [])) ≡ Ok (one_text k text)
one_text_is k text plain_k plain = object_is _ (one_text k text) (one_text k text) (one_text_written k text plain_k plain) (plain_k, plain, tt) (omega arith) refl refl

-- ---- terms

abbrev terms_data : ℕ → ℕ → Members → Data
terms_data reference cover rest = object (member (codes "reference") (number (unsigned reference)) (member (codes "cover") (number (unsigned cover)) rest))

terms_written : (reference cover : ℕ) → compact_text (terms_data reference cover no_members) ≡ amendment_text reference cover
unfolding serde_json_on_literals
terms_written reference cover = refl

terms_simple : (reference cover : ℕ) → reference < 2 ^ 64 → cover < 2 ^ 64 → IsSimple (terms_data reference cover no_members)
terms_simple reference cover r c = (key (codes "reference") refl, r, (key (codes "cover") refl, c, tt))

abbrev terms_found : ℕ → ℕ → Data
terms_found reference cover = object (member (codes "cover") (number (unsigned cover)) (member (codes "reference") (number (unsigned reference)) no_members))

terms_are : (reference cover : ℕ) → reference < 2 ^ 64 → cover < 2 ^ 64
    → object_of (amendment_text reference cover) ≡ Ok (terms_found reference cover)
terms_are reference cover r c =
    object_is _ (terms_data reference cover no_members) (terms_found reference cover) (terms_written reference cover) (terms_simple reference cover r c) (omega arith)
    (rw (number_of-decimal reference r, number_of-decimal cover c) refl) refl

-- the terms and an access code
abbrev code_member : List ℕ → Members
code_member code = member (codes "code") (string code) no_members

opening_written : (reference cover : ℕ) (code : List ℕ) → All IsPlain code
    → compact_text (terms_data reference cover (code_member code)) ≡ opening_text reference cover code
unfolding serde_json_on_literals
opening_written reference cover code plain =
    rw (escape_plain code plain)
    (ap (λ (rest : List ℕ). codes "{\"reference\":" ++ (decimal reference ++ (codes ",\"cover\":" ++ (decimal cover ++ (codes ",\"code\":\"" ++ rest))))) (append_assoc code (34 ∷ []) (125 ∷ [])))

opening_simple : (reference cover : ℕ) (code : List ℕ) → reference < 2 ^ 64 → cover < 2 ^ 64 → All IsPlain code → IsSimple (terms_data reference cover (code_member code))
opening_simple reference cover code r c plain = (key (codes "reference") refl, r, (key (codes "cover") refl, c, (key (codes "code") refl, plain, tt)))

abbrev opening_found : ℕ → ℕ → List ℕ → Data
opening_found reference cover code = object (member (codes "code") (string code) (member (codes "cover") (number (unsigned cover)) (member (codes "reference") (number (unsigned reference)) no_members)))

opening_is : (reference cover : ℕ) (code : List ℕ) → reference < 2 ^ 64 → cover < 2 ^ 64 → All IsPlain code
    → object_of (opening_text reference cover code) ≡ Ok (opening_found reference cover code)
opening_is reference cover code r c plain =
    object_is _ (terms_data reference cover (code_member code)) (opening_found reference cover code) (opening_written reference cover code plain) (opening_simple reference cover code r c plain) (omega arith)
    (rw (number_of-decimal reference r, number_of-decimal cover c) refl) refl

-- the terms that an object has
terms_read : (d : Data) (reference cover : ℕ) → number_at (field_name field.Reference) d ≡ Some reference → number_at (field_name field.Cover) d ≡ Some cover → IsReference reference → IsCover cover
    → terms_of d ≡ Ok (reference, cover)
terms_read d reference cover there there' r c =
    then_ok _ reference _ _ (number_is field.Reference reference_of d reference there (reference_reads reference r))
    (then_ok _ cover _ _ (number_is field.Cover cover_of d cover there' (cover_reads cover c)) refl)

-- a cover is small
cover_small : (n : ℕ) → IsCover n → n < 2 ^ 64
cover_small n (inl whole) = omega (arith, whole)
cover_small n (inr (inl half)) = omega (arith, half)
cover_small n (inr (inr (inl third))) = omega (arith, third)
cover_small n (inr (inr (inr none))) = omega (arith, none)

-- ---- lines

abbrev line_data : Line × List ℕ → Data
line_data line =
    object (member (codes "cents") (number (unsigned line.0.cents)) (member (codes "code") (string line.1) (member (codes "grn") (string line.0.grn) no_members)))

abbrev lines_data : List (Line × List ℕ) → Items
lines_data [] = no_items
lines_data (line ∷ lines) = item (line_data line) (lines_data lines)

-- what a line keeps to
record IsWritable (line : Line × List ℕ) : Type 0 where
  amount : IsLineAmount line.0.cents
  grn : IsGrn line.0.grn
  code : IsAccessCode line.1

small_line : (line : Line × List ℕ) → IsWritable line → line.0.cents < 2 ^ 64
small_line line h = omega (arith, h.amount.1)

line_object : (code grn : Data) (code' grn' : List ℕ) (cents : ℕ) → compact_text code ≡ code' → compact_text grn ≡ grn'
    → compact_text (object (member (codes "cents") (number (unsigned cents)) (member (codes "code") code (member (codes "grn") grn no_members))))
    ≡ codes "{\"cents\":" ++ (decimal cents ++ (codes ",\"code\":" ++ (code' ++ (codes ",\"grn\":" ++ (grn' ++ codes "}")))))
unfolding serde_json_on_literals
line_object code grn code' grn' cents same_code same_grn = rw (same_code, same_grn) refl

line_written : (line : Line × List ℕ) → IsWritable line → compact_text (line_data line) ≡ line_text line
line_written line h =
    line_object (string line.1) (string line.0.grn) _ _ line.0.cents (quoted_plain line.1 (code_plain line.1 h.code)) (quoted_plain line.0.grn (reference_plain 17 line.0.grn (omega arith) h.grn))
    ∙ simp append_assoc refl

later_written : (lines : List (Line × List ℕ)) → AllByRecursion IsWritable lines → items_text true (lines_data lines) ≡ flat_map later_line lines ++ codes "]"
later_written [] all = refl
later_written (line ∷ lines) all =
    ap₂ (λ (a b : List ℕ). 44 ∷ (a ++ b)) (line_written line all.0) (later_written lines all.1)
    ∙ ap (λ (text : List ℕ). 44 ∷ text) (sym (append_assoc (line_text line) (flat_map later_line lines) (codes "]")))

lines_written : (lines : List (Line × List ℕ)) → AllByRecursion IsWritable lines → compact_text (array (lines_data lines)) ≡ lines_text lines
lines_written [] all = refl
lines_written (line ∷ lines) all = ap₂ (λ (a b : List ℕ). 91 ∷ (a ++ b)) (line_written line all.0) (later_written lines all.1)

lines_simple : (lines : List (Line × List ℕ)) → AllByRecursion IsWritable lines → AreSimple (lines_data lines)
lines_simple [] all = tt
lines_simple (line ∷ lines) all =
    ((key (codes "cents") refl, small_line line all.0, (key (codes "code") refl, code_plain line.1 all.0.code, (key (codes "grn") refl, reference_plain 17 line.0.grn (omega arith) all.0.grn, tt))), lines_simple lines all.1)

lines_shallow : (lines : List (Line × List ℕ)) → tree.items_depth (items_outline (lines_data lines)) ≤ 1
lines_shallow [] = omega arith
lines_shallow (line ∷ lines) = let rest = lines_shallow lines in omega (arith, rest)

line_json : (line : Line × List ℕ) → IsWritable line → of_json (outline (line_data line)) ≡ Some (line_data line)
line_json line h = rw (number_of-decimal line.0.cents (small_line line h)) refl

lines_json : (lines : List (Line × List ℕ)) → AllByRecursion IsWritable lines → of_items (items_outline (lines_data lines)) ≡ Some (lines_data lines)
lines_json [] all = refl
lines_json (line ∷ lines) all =
    ap₂ (λ (d : Option Data) (ds : Option Items). option_and_then (λ d. option_map (item d) ds) d) (line_json line all.0) (lines_json lines all.1)

line_reads : (line : Line × List ℕ) → IsWritable line → line_in (line_data line) ≡ Some line
line_reads line h =
    rw (cents_read line.0.cents h.amount, code_reads line.1 h.code, reference_is 17 line.0.grn h.grn) refl

lines_read_in : (lines : List (Line × List ℕ)) → AllByRecursion IsWritable lines → lines_of_body (lines_data lines) ≡ Some lines
lines_read_in [] all = refl
lines_read_in (line ∷ lines) all =
    ap₂ (λ (l : Option (Line × List ℕ)) (ls : Option (List (Line × List ℕ))). option_and_then (λ line. option_map (λ lines. line ∷ lines) ls) l) (line_reads line all.0) (lines_read_in lines all.1)

-- lines of a declaration that have the forms of their types are such lines
writable : (lines : List (Line × List ℕ)) → All (λ l. IsLineAmount l.0.cents) lines → All IsFormedLine lines → AllByRecursion IsWritable lines
writable [] amounts forms = tt
writable (line ∷ lines) amounts forms =
    let form = All-head IsFormedLine line lines forms in (
      record { amount = All-head (λ l. IsLineAmount l.0.cents) line lines amounts; grn = form.grn; code = form.code },
      writable lines (All-tail (λ l. IsLineAmount l.0.cents) line lines amounts) (All-tail IsFormedLine line lines forms),
    )

-- ---- a declaration

abbrev declaration_data : List ℕ → List ℕ → List ℕ → Items → Data
declaration_data lrn departure destination lines =
    object (member (codes "lrn") (string lrn) (member (codes "departure") (string departure) (member (codes "destination") (string destination) (member (codes "lines") (array lines) no_members))))

abbrev declaration_found : List ℕ → List ℕ → List ℕ → Items → Data
declaration_found lrn departure destination lines =
    object (member (codes "departure") (string departure) (member (codes "destination") (string destination) (member (codes "lines") (array lines) (member (codes "lrn") (string lrn) no_members))))

declaration_object : (lrn departure destination lines : Data) (lrn' departure' destination' lines' : List ℕ) → compact_text lrn ≡ lrn' → compact_text departure ≡ departure' → compact_text destination ≡ destination' → compact_text lines ≡ lines'
    → compact_text (object (member (codes "lrn") lrn (member (codes "departure") departure (member (codes "destination") destination (member (codes "lines") lines no_members)))))
    ≡ codes "{\"lrn\":" ++ (lrn' ++ (codes ",\"departure\":" ++ (departure' ++ (codes ",\"destination\":" ++ (destination' ++ (codes ",\"lines\":" ++ (lines' ++ codes "}")))))))
unfolding serde_json_on_literals
declaration_object lrn departure destination lines lrn' departure' destination' lines' l d e s = rw (l, d, e, s) refl

declaration_written : (lrn departure destination : List ℕ) (lines : Items) (text : List ℕ) → All IsPlain lrn → All IsPlain departure → All IsPlain destination → compact_text (array lines) ≡ text
    → compact_text (declaration_data lrn departure destination lines) ≡ declaration_text lrn departure destination text
declaration_written lrn departure destination lines text l d e same =
    declaration_object (string lrn) (string departure) (string destination) (array lines) _ _ _ _ (quoted_plain lrn l) (quoted_plain departure d) (quoted_plain destination e) same
    ∙ simp append_assoc refl

declaration_simple : (lrn departure destination : List ℕ) (lines : List (Line × List ℕ)) → All IsPlain lrn → All IsPlain departure → All IsPlain destination → AllByRecursion IsWritable lines
    → IsSimple (declaration_data lrn departure destination (lines_data lines))
declaration_simple lrn departure destination lines l d e all = (key (codes "lrn") refl, l, (key (codes "departure") refl, d, (key (codes "destination") refl, e, (key (codes "lines") refl, lines_simple lines all, tt))))

declaration_is : (lrn departure destination : List ℕ) (lines : List (Line × List ℕ)) → All IsPlain lrn → All IsPlain departure → All IsPlain destination → AllByRecursion IsWritable lines
    → object_of (declaration_text lrn departure destination (lines_text lines)) ≡ Ok (declaration_found lrn departure destination (lines_data lines))
declaration_is lrn departure destination lines l d e all =
    object_is _ (declaration_data lrn departure destination (lines_data lines)) (declaration_found lrn departure destination (lines_data lines))
    (declaration_written lrn departure destination (lines_data lines) (lines_text lines) l d e (lines_written lines all))
    (declaration_simple lrn departure destination lines l d e all) (omega (arith, lines_shallow lines))
    (rw (lines_json lines all) refl) refl

lines_are : (lrn departure destination : List ℕ) (lines : List (Line × List ℕ)) → AllByRecursion IsWritable lines → lines_of lines ≡ Some lines
    → lines_at (field_name field.Lines) (declaration_found lrn departure destination (lines_data lines)) ≡ Some lines
lines_are lrn departure destination lines all are = ap (λ o. option_and_then lines_of o) (lines_read_in lines all) ∙ are

-- ---- each body

-- an access code alone
code_is : (code : List ℕ) → IsAccessCode code → (next : List ℕ → Result Command WebFault) → (object_of (codes "{\"code\":\"" ++ (code ++ codes "\"}")) >>= λ d. text_field field.Code code_read d >>= next) ≡ next code
code_is code h next =
    then_ok _ (one_text (codes "code") code) _ _ (one_text_is (codes "code") code (key (codes "code") refl) (code_plain code h))
    (then_ok _ code next _ (text_is field.Code code_read (one_text (codes "code") code) code code refl (code_reads code h)) refl)

-- the body of a command, behind the route of its path, is read as the command
pub body_reads : (c : Command) → IsProper c → HasFormedLines c → IsLimitRead c → command_at (request_body c) (route_for c) ≡ Ok c
body_reads (command.Register holder eori) h forms day =
    then_ok _ _ _ _ (one_text_is (codes "eori") eori (key (codes "eori") refl) (eori_plain eori h.1))
    (then_ok _ eori _ _ (text_is field.Eori eori_read (one_text (codes "eori") eori) eori eori refl (eori_reads eori h.1)) refl)
body_reads (command.OpenGuarantee holder reference cover code) h forms day =
    let d = opening_found reference cover code in
    then_ok _ d _ _ (opening_is reference cover code (omega (arith, h.1.1)) (cover_small cover h.2) (code_plain code h.3))
    (then_ok _ (reference, cover) _ _ (terms_read d reference cover refl refl h.1 h.2)
    (then_ok _ code _ _ (text_is field.Code code_read d code code refl (code_reads code h.3)) refl))
body_reads (command.Amend grn reference cover) h forms day =
    let d = terms_found reference cover in
    then_ok _ d _ _ (terms_are reference cover (omega (arith, h.1.1)) (cover_small cover h.2))
    (then_ok _ (reference, cover) _ _ (terms_read d reference cover refl refl h.1 h.2) refl)
body_reads (command.Revoke grn) h forms day = refl
body_reads (command.Ie015 holder lrn departure destination lines) h forms day =
    let all = writable lines h.4.amounts forms in
    let d = declaration_found lrn departure destination (lines_data lines) in
    then_ok _ d _ _ (declaration_is lrn departure destination lines (lrn_text_plain lrn h.1) (office_plain departure h.2) (office_plain destination h.3) all)
    (then_ok _ lrn _ _ (text_is field.Lrn lrn_read d lrn lrn refl (lrn_reads lrn h.1))
    (then_ok _ departure _ _ (text_is field.Departure office_read d departure departure refl (office_reads departure h.2))
    (then_ok _ destination _ _ (text_is field.Destination office_read d destination destination refl (office_reads destination h.3))
    (then_ok _ lines _ _ (ap (λ o. ok_or o (BadField field.Lines)) (lines_are lrn departure destination lines all (lines_read lines h.4))) refl))))
body_reads (command.Ie014 holder mrn) h forms day = refl
body_reads (command.AddCode holder grn code) h forms day = code_is code h.2 (λ code. Ok (command.AddCode holder grn code))
body_reads (command.RemoveCode holder grn code) h forms day = code_is code h.2 (λ code. Ok (command.RemoveCode holder grn code))
body_reads (command.Ie029 mrn limit) h forms day =
    then_ok _ _ _ _ (one_text_is (codes "limit") (day_text limit) (key (codes "limit") refl) (day_plain limit))
    (then_ok _ limit _ _ (text_is field.Limit day_read (one_text (codes "limit") (day_text limit)) (day_text limit) limit refl day) refl)
body_reads (command.Ie007 mrn office) h forms day =
    then_ok _ _ _ _ (one_text_is (codes "office") office (key (codes "office") refl) (office_plain office h.1))
    (then_ok _ office _ _ (text_is field.Office office_read (one_text (codes "office") office) office office refl (office_reads office h.1)) refl)
body_reads (command.Ie018 mrn result) h forms day =
    then_ok _ _ _ _ (one_text_is (codes "result") (control_name result) (key (codes "result") refl) (control_plain result))
    (then_ok _ result _ _ (text_is field.Result control_read (one_text (codes "result") (control_name result)) (control_name result) result refl (control_reads result)) refl)
body_reads (command.Ie045 mrn cause) h forms day =
    then_ok _ _ _ _ (one_text_is (codes "ground") (ground_name cause) (key (codes "ground") refl) (ground_plain cause))
    (then_ok _ cause _ _ (text_is field.Ground ground_read (one_text (codes "ground") (ground_name cause)) (ground_name cause) cause refl (ground_reads cause)) refl)
body_reads (command.Ie140 mrn) h forms day = refl
body_reads (command.SeeHolder holder) h forms day = refl
body_reads (command.SeeMovement holder mrn) h forms day = refl
body_reads (command.SeeMovements holder) h forms day = refl
body_reads (command.SeeGuarantee holder grn) h forms day = refl
body_reads (command.SeeGuarantees holder) h forms day = refl

-- ---- no line ends within a body

one_text_shown : (k text : List ℕ) → All IsPlain k → All IsPlain text → All IsShown (123 ∷ (34 ∷ (k ++ 34 ∷ [])) ++ 58 ∷ 34 ∷ (text ++ 34 ∷ 125 ∷ []))
one_text_shown k text plain_k plain = shown_body _ (one_text k text) (one_text_written k text plain_k plain) (plain_k, plain, tt)

code_shown : (code : List ℕ) → IsAccessCode code → All IsShown (codes "{\"code\":\"" ++ (code ++ codes "\"}"))
code_shown code h = one_text_shown (codes "code") code (key (codes "code") refl) (code_plain code h)

pub body_shown : (c : Command) → IsProper c → HasFormedLines c → All IsShown (request_body c)
body_shown (command.Register holder eori) h forms = one_text_shown (codes "eori") eori (key (codes "eori") refl) (eori_plain eori h.1)
body_shown (command.OpenGuarantee holder reference cover code) h forms =
    shown_body _ (terms_data reference cover (code_member code)) (opening_written reference cover code (code_plain code h.3)) (opening_simple reference cover code (omega (arith, h.1.1)) (cover_small cover h.2) (code_plain code h.3))
body_shown (command.Amend grn reference cover) h forms =
    shown_body _ (terms_data reference cover no_members) (terms_written reference cover) (terms_simple reference cover (omega (arith, h.1.1)) (cover_small cover h.2))
body_shown (command.Revoke grn) h forms = All-nil IsShown
body_shown (command.Ie015 holder lrn departure destination lines) h forms =
    let all = writable lines h.4.amounts forms in
    let l = lrn_text_plain lrn h.1 in
    let d = office_plain departure h.2 in
    let e = office_plain destination h.3 in
    shown_body _ (declaration_data lrn departure destination (lines_data lines)) (declaration_written lrn departure destination (lines_data lines) (lines_text lines) l d e (lines_written lines all))
    (declaration_simple lrn departure destination lines l d e all)
body_shown (command.Ie014 holder mrn) h forms = All-nil IsShown
body_shown (command.AddCode holder grn code) h forms = code_shown code h.2
body_shown (command.RemoveCode holder grn code) h forms = code_shown code h.2
body_shown (command.Ie029 mrn limit) h forms = one_text_shown (codes "limit") (day_text limit) (key (codes "limit") refl) (day_plain limit)
body_shown (command.Ie007 mrn office) h forms = one_text_shown (codes "office") office (key (codes "office") refl) (office_plain office h.1)
body_shown (command.Ie018 mrn result) h forms = one_text_shown (codes "result") (control_name result) (key (codes "result") refl) (control_plain result)
body_shown (command.Ie045 mrn cause) h forms = one_text_shown (codes "ground") (ground_name cause) (key (codes "ground") refl) (ground_plain cause)
body_shown (command.Ie140 mrn) h forms = All-nil IsShown
body_shown (command.SeeHolder holder) h forms = All-nil IsShown
body_shown (command.SeeMovement holder mrn) h forms = All-nil IsShown
body_shown (command.SeeMovements holder) h forms = All-nil IsShown
body_shown (command.SeeGuarantee holder grn) h forms = All-nil IsShown
body_shown (command.SeeGuarantees holder) h forms = All-nil IsShown
