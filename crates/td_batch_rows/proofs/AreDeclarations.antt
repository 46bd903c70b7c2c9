-- What is read of a file of declarations are declarations.
use Rattle.std.proofs.Common.{◌≡◌, ◌==◌, ℕ, ◌+◌, Bool, true, false, List, [], ◌∷◌, length, Option, Some, None, Result, Ok, Err, IfOk, refl, subst}
use Rattle.std.specs.Prelude.{if◌then◌else◌}
use Rattle.std.specs.List.{AllByRecursion}
use Rattle.td_base.specs.Codes.{holder_read, lrn_read, office_read}
use Rattle.td_movement.specs.declared.line.Line.{Line}
use Rattle.td_commands.specs.declared.command.Command.{Command}
use Rattle.td_commands.specs.declared.command.Command.TheVariants as command
use Rattle.td_batch_rows.specs.Declarations.{IsDeclaration, then_column, declaration_read, declaration_row, declarations_in, is_declarations_header, lines_read}
use Rattle.td_batch_rows.specs.Rows.{Fields, Place, file_in, records_in, rows_from, field_text, then_rows}

-- what holds of each result of the columns behind one holds of the row
by_column : {A : Type 0} (n : ℕ) (o : Option A) (next : A → Result Command ℕ) (c : Command)
    → ((a : A) → next a ≡ Ok c → IsDeclaration c) → then_column n o next ≡ Ok c → IsDeclaration c
by_column n None next c each is = absurd (bad is)
  where
    bad : Err n ≡ Ok c → ⊥
    bad is = cc
by_column n (Some a) next c each is = each a is

read_one : (holder lrn departure destination lines : List ℕ) (c : Command) → declaration_read holder lrn departure destination lines ≡ Ok c → IsDeclaration c
read_one holder lrn departure destination lines c =
    by_column 1 (holder_read holder) (λ h. then_column 2 (lrn_read lrn) (λ l. then_column 3 (office_read departure) (λ from. then_column 4 (office_read destination)
    (λ to. then_column 5 (lines_read lines) (λ ls. Ok (command.Ie015 h l from to ls)))))) c
    (λ h. by_column 2 (lrn_read lrn) (λ l. then_column 3 (office_read departure) (λ from. then_column 4 (office_read destination)
    (λ to. then_column 5 (lines_read lines) (λ ls. Ok (command.Ie015 h l from to ls))))) c
    (λ l. by_column 3 (office_read departure) (λ from. then_column 4 (office_read destination)
    (λ to. then_column 5 (lines_read lines) (λ ls. Ok (command.Ie015 h l from to ls)))) c
    (λ from. by_column 4 (office_read destination) (λ to. then_column 5 (lines_read lines) (λ ls. Ok (command.Ie015 h l from to ls))) c
    (λ to. by_column 5 (lines_read lines) (λ ls. Ok (command.Ie015 h l from to ls)) c (λ ls is. declared h l from to ls is)))))
  where
    declared : (h : ℕ) (l from to : List ℕ) (ls : List (Line × List ℕ)) → ◌≡◌ {A = Result Command ℕ} (Ok (command.Ie015 h l from to ls)) (Ok c) → IsDeclaration c
    declared h l from to ls is =
        let same : command.Ie015 h l from to ls ≡ c = cc in
        subst IsDeclaration same tt

one_row : (fields : Fields) (b : Bool) (c : Command)
    → (if b then declaration_read (field_text fields 0) (field_text fields 1) (field_text fields 2) (field_text fields 3) (field_text fields 4) else Err 0) ≡ Ok c → IsDeclaration c
one_row fields true c is = read_one (field_text fields 0) (field_text fields 1) (field_text fields 2) (field_text fields 3) (field_text fields 4) c is
one_row fields false c is = absurd (bad is)
  where
    bad : ◌≡◌ {A = Result Command ℕ} (Err 0) (Ok c) → ⊥
    bad is = cc

by_rows : (n : ℕ) (row : Result Command ℕ) (rest : Result (List Command) Place) (rows : List Command)
    → ((c : Command) → row ≡ Ok c → IsDeclaration c) → ((more : List Command) → rest ≡ Ok more → AllByRecursion IsDeclaration more)
    → then_rows n row rest ≡ Ok rows → AllByRecursion IsDeclaration rows
by_rows n (Err at) rest rows one all is = absurd (bad is)
  where
    bad : ◌≡◌ {A = Result (List Command) Place} (Err (n, at)) (Ok rows) → ⊥
    bad is = cc
by_rows n (Ok c) (Err place) rows one all is = absurd (bad is)
  where
    bad : ◌≡◌ {A = Result (List Command) Place} (Err place) (Ok rows) → ⊥
    bad is = cc
by_rows n (Ok c) (Ok more) rows one all is =
    let same : c ∷ more ≡ rows = cc in
    subst (AllByRecursion IsDeclaration) same (one c refl, all more refl)

all_rows : (n : ℕ) (records : List Fields) (rows : List Command) → rows_from declaration_row n records ≡ Ok rows → AllByRecursion IsDeclaration rows
unfolding rows_from
all_rows n [] rows is =
    let same : ◌≡◌ {A = List Command} [] rows = cc in
    subst (AllByRecursion IsDeclaration) same tt
all_rows n (fields ∷ records) rows is =
    by_rows n (declaration_row fields) (rows_from declaration_row (n + 1) records) rows (one_row fields (length fields == 5))
    (λ more. all_rows (n + 1) records more) is

under_header : (b : Bool) (records : List Fields) (rows : List Command) → (if b then rows_from declaration_row 2 records else Err (1, 0)) ≡ Ok rows
    → AllByRecursion IsDeclaration rows
under_header true records rows is = all_rows 2 records rows is
under_header false records rows is = absurd (bad is)
  where
    bad : ◌≡◌ {A = Result (List Command) Place} (Err (1, 0)) (Ok rows) → ⊥
    bad is = cc

in_records : (records : List Fields) (rows : List Command) → file_in is_declarations_header declaration_row records ≡ Ok rows → AllByRecursion IsDeclaration rows
in_records [] rows is = absurd (bad is)
  where
    bad : ◌≡◌ {A = Result (List Command) Place} (Err (1, 0)) (Ok rows) → ⊥
    bad is = cc
in_records (first ∷ records) rows is = under_header (is_declarations_header first) records rows is

pub are_declarations : (bytes : List ℕ) (rows : List Command) → declarations_in bytes ≡ Ok rows → AllByRecursion IsDeclaration rows
are_declarations bytes rows is = in_records (records_in bytes) rows is

pub are_if : {V E : Type 0} (bytes : List ℕ) (items : V → List Command) (r : Result V E) → IfOk r (λ rows. declarations_in bytes ≡ Ok (items rows))
    → IfOk r (λ rows. AllByRecursion IsDeclaration (items rows))
are_if bytes items (Ok rows) is = are_declarations bytes (items rows) is
are_if bytes items (Err why) is = tt
