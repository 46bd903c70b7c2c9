-- Declarations of holders, by the columns of a row: holder, lrn, departure, destination, lines. The lines are one text:
-- `GRN:CODE:AMOUNT`, joined by `;`.
use Rattle.std.specs.Prelude.{ℕ, ◌==◌, ◌&&◌, Bool, List, [], ◌∷◌, length, bytes_eq, codes, Option, Some, None, option_and_then, option_map, Result, Ok, Err, if◌then◌else◌}
use Rattle.std.specs.List.{slice_split}
use Rattle.std.specs.Result.{result_ok}
use Rattle.td_base.specs.Codes.{holder_read, lrn_read, office_read, code_read}
use Rattle.td_base.specs.Money.{cents_read}
use Rattle.td_base.specs.References.{grn_read}
use Rattle.td_movement.specs.declared.line.Line.{Line}
use Rattle.td_commands.specs.Lines.{lines_of}
use Rattle.td_commands.specs.declared.command.Command.{Command}
use Rattle.td_commands.specs.declared.command.Command.TheVariants as command
use Rattle.td_batch_rows.specs.Rows.{Fields, Place, field_text, file_in, records_in}

-- the parts of a text, cut at each byte of this value
abbrev pub parts_at : ℕ → List ℕ → List (List ℕ)
parts_at byte text = slice_split (λ b. b == byte) text

-- the three parts, where there are three
abbrev pub three_of : List (List ℕ) → Option (List ℕ × List ℕ × List ℕ)
three_of [] = None
three_of (first ∷ []) = None
three_of (first ∷ second ∷ []) = None
three_of (first ∷ second ∷ third ∷ []) = Some (first, second, third)
three_of (first ∷ second ∷ third ∷ fourth ∷ more) = None

-- the line of a GRN, an access code and an amount, and the code beside it
abbrev pub line_of_parts : List ℕ × List ℕ × List ℕ → Option (Line × List ℕ)
line_of_parts (grn, code, amount) =
    option_and_then (λ grn. option_and_then (λ code. option_map (λ cents. (record { grn = grn; cents = cents }, code)) (cents_read amount))
    (code_read code)) (result_ok (grn_read grn))

-- the line that a text `GRN:CODE:AMOUNT` says, and the access code beside it
abbrev pub line_read : List ℕ → Option (Line × List ℕ)
line_read text = option_and_then line_of_parts (three_of (parts_at 58 text))

-- the lines that texts say, in order, where each says one
abbrev pub each_line : List (List ℕ) → Option (List (Line × List ℕ))
each_line [] = Some []
each_line (text ∷ texts) =
    option_and_then (λ line. option_map (λ lines. line ∷ lines) (each_line texts)) (line_read text)

-- the lines of a declaration that a text says
abbrev pub lines_read : List ℕ → Option (List (Line × List ℕ))
lines_read text = option_and_then lines_of (each_line (parts_at 59 text))

-- a column, before those after it: where it is bad, it is the first
abbrev pub then_column : {A B : Type 0} → ℕ → Option A → (A → Result B ℕ) → Result B ℕ
then_column n None next = Err n
then_column n (Some a) next = next a

abbrev pub declaration_read : List ℕ → List ℕ → List ℕ → List ℕ → List ℕ → Result Command ℕ
declaration_read holder lrn departure destination lines =
    then_column 1 (holder_read holder) (λ holder. then_column 2 (lrn_read lrn) (λ lrn. then_column 3 (office_read departure) (λ departure.
    then_column 4 (office_read destination) (λ destination. then_column 5 (lines_read lines) (λ lines.
    Ok (command.Ie015 holder lrn departure destination lines))))))

-- the declaration of a row of five columns
abbrev pub declaration_row : Fields → Result Command ℕ
declaration_row fields =
    if length fields == 5
    then declaration_read (field_text fields 0) (field_text fields 1) (field_text fields 2) (field_text fields 3) (field_text fields 4)
    else Err 0

-- the header `holder,lrn,departure,destination,lines`
abbrev pub is_declarations_header : Fields → Bool
is_declarations_header fields =
    (length fields == 5) && bytes_eq (field_text fields 0) (codes "holder") && bytes_eq (field_text fields 1) (codes "lrn")
    && bytes_eq (field_text fields 2) (codes "departure") && bytes_eq (field_text fields 3) (codes "destination")
    && bytes_eq (field_text fields 4) (codes "lines")

-- the declarations of a file
abbrev pub declarations_in : List ℕ → Result (List Command) Place
declarations_in bytes = file_in is_declarations_header declaration_row (records_in bytes)

-- the command is a declaration
abbrev pub IsDeclaration : Command → Type 0
IsDeclaration (command.Ie015 holder lrn departure destination lines) = Unit {0}
IsDeclaration other = ⊥
