-- Reports that are being written.
use Rattle.std.specs.Prelude.{◌≡◌, ◌⊎◌, ◌<◌, ◌≤◌, ℕ, ◌+◌, ◌^◌, Bool, true, List, [], ◌++◌, length, unwrap_or, Option, Some, None, Result, IsOk, if◌then◌else◌, string_bytes}
use Rattle.std.specs.Option.{is_none}
use Rattle.counted_io.specs.declared.counted.Counted.{Counted}
use Rattle.counted_io.specs.Chains.{Wrote}
use Rattle.td_desk.specs.declared.fault.Fault.{Fault}
use Rattle.td_report_pieces.specs.declared.fault.ReportFault.{ReportFault}
use Rattle.td_report_pieces.specs.declared.fault.ReportFault.TheVariants.{Write, Store}
use Rattle.td_report_pieces.specs.declared.pieces.Pieces.{Pieces}
use Rattle.td_report_pieces.specs.Layout.{total_line}
use Rattle.td_report_pieces.specs.Written.{EndsBy, no_write_failed, stop_of}

-- the text of a line, or nothing; and how many lines that is
abbrev pub text_in : Option (List ℕ) → List ℕ
text_in line = unwrap_or line []

abbrev pub lines_in : Option (List ℕ) → ℕ
lines_in None = 0
lines_in (Some line) = 1

-- how many bytes make a piece
abbrev pub piece : ℕ
piece = 4096

-- what is left to be written after a visit: what waits, and the total, if all rows were taken up
abbrev pub left_of : {R : Type 0} → Pieces R → Result Bool Fault → List ℕ
left_of p visited = string_bytes p.text ++ (if is_none (stop_of visited p.fault) then total_line p.lines else [])

module _ {R W : Type 0} (contents : W → Option (List ℕ)) where
  -- A row was taken up, which has this line or none, with this fault or none. What was written and what waits begins what waited
  -- with the line behind it; without a fault it is that.
  pub record TakesUp (line : Option (List ℕ)) (old : Pieces R) (before : Counted W) (stopped : Option ReportFault)
      (new : Pieces R) (after : Counted W) : Type 0 where
    pub sent : List ℕ
    pub rest : List ℕ
    pub wrote : Wrote contents before after sent (no_write_failed stopped)
    pub text : sent ++ (string_bytes new.text ++ rest) ≡ string_bytes old.text ++ text_in line
    pub same : new.report ≡ old.report
    pub whole : stopped ≡ None → (rest ≡ []) × (new.lines ≡ old.lines + lines_in line)
    pub none : stopped ≡ Some Write → string_bytes new.text ≡ []
    -- no more waits than a piece, and no less is written
    pub short : length (string_bytes old.text) < piece → length (string_bytes new.text) < piece
    pub few : (after ≡ before) ⊎ (piece ≤ length (string_bytes old.text ++ text_in line))
    -- it is told as the store's fault only if a number of 64 bits counts no further line
    pub full : stopped ≡ Some Store → 2 ^ 64 ≤ old.lines + 1

  -- once it was stopped nothing more is done
  abbrev pub SeesBy : Option ReportFault → Option (List ℕ) → Pieces R → Counted W → Pieces R → Counted W → Type 0
  SeesBy (Some why) line old before new after = (new ≡ old) × (after ≡ before)
  SeesBy None line old before new after = TakesUp line old before new.fault new after

  -- that was written, or its beginning
  pub record Ends (old : Pieces R) (visited : Result Bool Fault) (before : Counted W) (result : Result (Unit {0}) ReportFault)
      (after : Counted W) : Type 0 where
    pub sent : List ℕ
    pub rest : List ℕ
    pub well : Bool
    pub wrote : Wrote contents before after sent well
    pub text : sent ++ rest ≡ left_of old visited
    pub whole : IsOk result → rest ≡ []
    -- where no write failed, what waited is written, also where it is no whole report
    pub waited : well ≡ true → (rest ≡ []) ⊎ (sent ≡ string_bytes old.text)
    pub still : left_of old visited ≡ [] → after ≡ before
    pub by : EndsBy (stop_of visited old.fault) well result
