-- Rows of a file, under its header.
use Rattle.std.specs.Prelude.{◌≡◌, ⊤, ℕ, ◌+◌, Bool, true, false, List, [], ◌∷◌, Option, Some, None, Result, Ok, Err, if◌then◌else◌}
use Rattle.csv.specs.Reading.{default_config, records, strip_bom}
use Rattle.csv.specs.Records.{field_at}
use Rattle.td_batch_rows.specs.declared.fault.BatchFault.{BatchFault}
use Rattle.td_batch_rows.specs.declared.fault.BatchFault.TheVariants.{BadCsv, NoMemory}

-- the fields of a record, each by its bytes
abbrev pub Fields : Type 0
Fields = List (List ℕ)

abbrev pub text_or_none : Option (List ℕ) → List ℕ
text_or_none None = []
text_or_none (Some text) = text

-- the text at a place of a row
abbrev pub field_text : Fields → ℕ → List ℕ
field_text fields place = text_or_none (field_at fields place)

-- a row and a column in it
abbrev pub Place : Type 0
Place = ℕ × ℕ

-- what row n is, before what the rows after it are
abbrev pub then_rows : {A : Type 0} → ℕ → Result A ℕ → Result (List A) Place → Result (List A) Place
then_rows n (Err column) rest = Err (n, column)
then_rows n (Ok row) (Err place) = Err place
then_rows n (Ok row) (Ok rows) = Ok (row ∷ rows)

-- what these records are, the first of which is row n; or the first row that is bad, and the first bad column in it
unfoldable pub rows_from : {A : Type 0} → (Fields → Result A ℕ) → ℕ → List Fields → Result (List A) Place
rows_from read n [] = Ok []
rows_from read n (fields ∷ more) = then_rows n (read fields) (rows_from read (n + 1) more)

-- the rows of a file under its header, which is row 1
abbrev pub file_in : {A : Type 0} → (Fields → Bool) → (Fields → Result A ℕ) → List Fields → Result (List A) Place
file_in is_header read [] = Err (1, 0)
file_in is_header read (first ∷ more) = if is_header first then rows_from read 2 more else Err (1, 0)

-- the records of a file: those of CSV with commas and double quotes, behind a byte order mark
abbrev pub records_in : List ℕ → List Fields
records_in bytes = records default_config (strip_bom bytes)

-- a fault that tells of what was read
abbrev pub Tells : {A : Type 0} → Result (List A) Place → BatchFault → Type 0
Tells read (BadCsv row column) = read ≡ Err (row, column)
Tells read NoMemory = ⊤

-- the records so far were taken as these rows, the header among them, or none yet
abbrev pub HasTaken : {A : Type 0} → (Fields → Bool) → (Fields → Result A ℕ) → Bool → List Fields → List A → Type 0
HasTaken is_header read false records rows = (records ≡ []) × (rows ≡ [])
HasTaken is_header read true records rows = file_in is_header read records ≡ Ok rows
