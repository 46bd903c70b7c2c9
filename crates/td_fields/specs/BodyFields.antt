-- The members of a JSON object by their keys: the last, where the object has the key twice. Texts that are names.
-- The lines of a declaration as a body has them: an array of objects with `cents`, `code` and `grn`.
use Rattle.std.specs.Prelude.{ℕ, List, [], ◌∷◌, bytes_eq, find, Option, option_and_then, codes, Some, option_map}
use Rattle.serde_json.specs.Data.{Data, Items, no_items, item}
use Rattle.serde_json.specs.Find.{get, as_array, as_str, as_number, as_u64}
use Rattle.td_movement.specs.States.{control_name, ground_name}
use Rattle.td_movement.specs.declared.state.Control.{Control}
use Rattle.td_movement.specs.declared.state.Control.TheVariants.{A1, A2, B1}
use Rattle.td_movement.specs.declared.state.Ground.{Ground}
use Rattle.td_movement.specs.declared.state.Ground.TheVariants.{Results, Proof}
use Rattle.std.specs.Result.{result_ok}
use Rattle.td_commands.specs.Lines.{lines_of}
use Rattle.td_base.specs.Codes.{code_read}
use Rattle.td_base.specs.Money.{cents_of}
use Rattle.td_base.specs.References.{grn_read}
use Rattle.td_movement.specs.declared.line.Line.{Line}

-- the text of a key
abbrev pub text_at : List ℕ → Data → Option (List ℕ)
text_at key value = option_and_then as_str (get key value)

-- the whole number of a key: below 2^64, and written without minus sign, fraction and exponent
abbrev pub number_at : List ℕ → Data → Option ℕ
number_at key value = option_and_then as_u64 (option_and_then as_number (get key value))

-- the elements of a key's array
abbrev pub array_at : List ℕ → Data → Option Items
array_at key value = option_and_then as_array (get key value)

-- the one of these things whose name the text is
abbrev pub with_name : {T : Type 0} → (T → List ℕ) → List T → List ℕ → Option T
with_name name things text = find (λ thing. bytes_eq (name thing) text) things

-- the result of a control, by its code
abbrev pub control_read : List ℕ → Option Control
control_read text = with_name control_name (A1 ∷ A2 ∷ B1 ∷ []) text

-- the ground of a write-off, by the word for it
abbrev pub ground_read : List ℕ → Option Ground
ground_read text = with_name ground_name (Results ∷ Proof ∷ []) text

-- the line that a value says, and the access code beside it
abbrev pub line_in : Data → Option (Line × List ℕ)
line_in value =
    option_and_then (λ cents. option_and_then (λ code. option_map (λ grn. (record { grn = grn; cents = cents }, code))
    (option_and_then (λ text. result_ok (grn_read text)) (text_at (codes "grn") value)))
    (option_and_then code_read (text_at (codes "code") value)))
    (option_and_then cents_of (number_at (codes "cents") value))

-- the lines that the elements of an array say, in order, where each says one
abbrev pub lines_of_body : Items → Option (List (Line × List ℕ))
lines_of_body no_items = Some []
lines_of_body (item value values) =
    option_and_then (λ line. option_map (λ lines. line ∷ lines) (lines_of_body values)) (line_in value)

-- the lines of a key
abbrev pub lines_at : List ℕ → Data → Option (List (Line × List ℕ))
lines_at key value = option_and_then lines_of (option_and_then lines_of_body (array_at key value))
