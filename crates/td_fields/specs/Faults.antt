-- Why a request can't be read: names, and what the reply says beside them.
use Rattle.std.specs.Prelude.{◌≡◌, ◌⊎◌, ℕ, Bool, List, [], ◌∷◌, ◌++◌, flat_map, codes, if◌then◌else◌, Option, Some, None, Result, Ok, Err}
use Rattle.td_base.specs.declared.references.RefFault.{RefFault}
use Rattle.td_base.specs.declared.references.RefFault.TheVariants.{Length, Form, CheckDigit}
use Rattle.td_fields.specs.declared.fault.Allowed.{Allowed}
use Rattle.td_fields.specs.declared.fault.Field.{Field}
use Rattle.td_fields.specs.declared.fault.Field.TheVariants as field
use Rattle.td_fields.specs.declared.fault.WebFault.{WebFault}
use Rattle.td_fields.specs.declared.fault.WebFault.TheVariants.{NoRoute, NoMethod, BadHolder, BadMrn, BadGrn, BadBody, BadField, NoMemory}

-- a text, where the test passes
abbrev pub text_where : Bool → List ℕ → List (List ℕ)
text_where test text = if test then text ∷ [] else []

-- texts, joined by `, `
abbrev pub comma_list : List (List ℕ) → List ℕ
comma_list [] = []
comma_list (text ∷ texts) = text ++ flat_map (λ next. codes ", " ++ next) texts

-- the methods of a path, as `Allow` lists them: in alphabetical order, joined by `, `
abbrev pub allowed_text : Allowed → List ℕ
allowed_text allowed =
    comma_list (text_where allowed.get (codes "GET")
    ++ (text_where allowed.post (codes "POST") ++ text_where allowed.put (codes "PUT")))

-- a field's key in the body
abbrev pub field_name : Field → List ℕ
field_name field.Eori = codes "eori"
field_name field.Reference = codes "reference"
field_name field.Cover = codes "cover"
field_name field.Code = codes "code"
field_name field.Limit = codes "limit"
field_name field.Office = codes "office"
field_name field.Result = codes "result"
field_name field.Ground = codes "ground"
field_name field.Lrn = codes "lrn"
field_name field.Departure = codes "departure"
field_name field.Destination = codes "destination"
field_name field.Lines = codes "lines"

-- what the reply calls the reason for which a text isn't a reference
abbrev pub reason_text : RefFault → List ℕ
reason_text Length = codes "length"
reason_text Form = codes "form"
reason_text CheckDigit = codes "check-digit"

-- the name that the reply gives
abbrev pub fault_name : WebFault → List ℕ
fault_name NoRoute = codes "no-route"
fault_name (NoMethod allow) = codes "no-method"
fault_name BadHolder = codes "bad-holder"
fault_name (BadMrn reason) = codes "bad-mrn"
fault_name (BadGrn reason) = codes "bad-grn"
fault_name BadBody = codes "bad-body"
fault_name (BadField field) = codes "bad-field"
fault_name NoMemory = codes "no-memory"

-- what the reply's field `Allow` lists
abbrev pub fault_allow : WebFault → Option (List ℕ)
fault_allow NoRoute = None
fault_allow (NoMethod allow) = Some (allowed_text allow)
fault_allow BadHolder = None
fault_allow (BadMrn reason) = None
fault_allow (BadGrn reason) = None
fault_allow BadBody = None
fault_allow (BadField field) = None
fault_allow NoMemory = None

-- what is wanted, want of memory aside
abbrev pub OrNoMemory : {T : Type 0} → Result T WebFault → Result T WebFault → Type 0
OrNoMemory result wanted = (result ≡ Err NoMemory) ⊎ (result ≡ wanted)

-- the next step of a reading: the first fault stays
infixl 10 ◌>>=◌
abbrev pub ◌>>=◌ : {A B : Type 0} → Result A WebFault → (A → Result B WebFault) → Result B WebFault
Ok a >>= next = next a
Err e >>= next = Err e
