-- A line is that of one row.
use Rattle.std.proofs.Common.{◌≡◌, ℕ, ℤ, pos, negsuc, List, Option, Some, Ok, Result, sym, ap, ◌∙◌}
use Rattle.std.proofs.lemmas.Option.{cond_some}
use Rattle.td_base.specs.Days.{moment_of}
use Rattle.td_commands.specs.declared.command.Command.{Command}
use Rattle.td_fields.specs.declared.fault.WebFault.{WebFault}
use Rattle.td_journal_rows.specs.Requests.{ReadsBack, request_body, request_method, request_path}
use Rattle.td_journal_rows.specs.Rows.{RowText, change_row, row_of_line}
use Rattle.td_journal_rows.proofs.RowsBack.{front_line, line_is, line_reads, row_front}
use Rattle.td_journal_lines.specs.Lines.{IsLine, Numbered}
use Rattle.td_journal_rows.specs.Rows.{IsOneLine}
use Rattle.td_routes.specs.Bodies.{command_of}

-- the seconds of a moment
pub moment_is : (at : ℤ) (seconds : ℕ) → moment_of at ≡ Some seconds → at ≡ pos seconds
moment_is (pos n) seconds is = ap pos (cond_some _ n seconds is).1
moment_is (negsuc n) seconds is = cc

pub same_command : (r : Result Command WebFault) (a b : Command) → r ≡ Ok a → r ≡ Ok b → a ≡ b
same_command r a b is_a is_b = cc

-- commands with one request are one
one_command : (a b : Command) → ReadsBack a → ReadsBack b → request_method a ≡ request_method b → request_path a ≡ request_path b → request_body a ≡ request_body b → a ≡ b
one_command a b is_a is_b methods paths bodies =
    let method = ap (λ (method : List ℕ). command_of method (request_path a) (request_body a)) methods in
    let path = ap (λ (path : List ℕ). command_of (request_method b) path (request_body a)) paths in
    let body = ap (λ (body : List ℕ). command_of (request_method b) (request_path b) body) bodies in
    same_command (command_of (request_method a) (request_path a) (request_body a)) a b is_a (method ∙ path ∙ body ∙ is_b)

-- the row that a line is read as
pub reads : (r : Numbered) (line : List ℕ) (is : IsLine r line) → row_of_line line ≡ Some (change_row r.number is.seconds r.row.stamped.command r.row.shown)
reads r line is =
    let row = change_row r.number is.seconds r.row.stamped.command r.row.shown in
    ap row_of_line (is.line_is ∙ line_is row) ∙ line_reads row is.is_row

pub same_row : (o : Option RowText) (a b : RowText) → o ≡ Some a → o ≡ Some b → a ≡ b
same_row o a b is_a is_b = cc

abbrev numbered_at : ℕ → ℤ → Command → List ℕ → Numbered
numbered_at number at command shown = record { number = number; row = record { stamped = record { at = at; command = command }; shown = shown } }

same_numbered : (n m : ℕ) (at then : ℤ) (a b : Command) (shown told : List ℕ) → n ≡ m → at ≡ then → a ≡ b → shown ≡ told → numbered_at n at a shown ≡ numbered_at m then b told
same_numbered n m at then a b shown told = λ number moment command reply. cc

pub line_of_one : (r q : Numbered) (line : List ℕ) → IsLine r line → IsLine q line → r ≡ q
line_of_one r q line one two =
    let a = change_row r.number one.seconds r.row.stamped.command r.row.shown in
    let b = change_row q.number two.seconds q.row.stamped.command q.row.shown in
    let same : a ≡ b = same_row (row_of_line line) a b (reads r line one) (reads q line two) in
    let command = one_command r.row.stamped.command q.row.stamped.command one.reads_back two.reads_back (ap (λ (t : RowText). t.method) same) (ap (λ (t : RowText). t.path) same) (ap (λ (t : RowText). t.body) same) in
    let at : r.row.stamped.at ≡ q.row.stamped.at = moment_is r.row.stamped.at one.seconds one.moment ∙ (ap (λ (t : RowText). pos t.at) same ∙ sym (moment_is q.row.stamped.at two.seconds two.moment)) in
    same_numbered r.number q.number r.row.stamped.at q.row.stamped.at r.row.stamped.command q.row.stamped.command r.row.shown q.row.shown
    (ap (λ (t : RowText). t.number) same) at command (ap (λ (t : RowText). t.reply) same)

-- a row's line is one line
pub line_one : (r : Numbered) (line : List ℕ) → IsLine r line → IsOneLine line
line_one r line is =
    let row = change_row r.number is.seconds r.row.stamped.command r.row.shown in
    record {
      front = row_front row;
      line_is = is.line_is ∙ line_is row;
      none = front_line row is.is_row;
    }
