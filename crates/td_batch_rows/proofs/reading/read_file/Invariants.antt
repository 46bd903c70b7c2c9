use Rattle.std.proofs.Common.{◌≡◌, ◌<◌, ℕ, List, Some}
use Rattle.csv.specs.Reading.{Reached, Ready, default_config, source_of, strip_bom}
use Rattle.csv.specs.declared.parser.State.TheVariants as st
use Rattle.csv.specs.declared.reader.Trim.TheVariants as trim
use Rattle.td_batch_rows.specs.Rows.{Fields, HasTaken}
use Rattle.td_batch_rows.proofs.reading.read_file.Given as goal

abbrev pub invariant-loop-record : goal.invariant-loop-record
invariant-loop-record g l =
    let reader = l.record-iterator.rdr in
    (reader.trim ≡ trim.None) × Ready reader × (0 < l.record-iterator.left) × (reader.config ≡ default_config)
    × (y : List ℕ) × (source_of (λ s. Some s.now) reader ≡ Some y)
    × (taken : List Fields) × Reached default_config st.StartRecord (strip_bom l.fn.bytes) taken reader.state y
    × HasTaken g.R.FileRow.is_header g.R.FileRow.row_of l.headed taken l.rows.items
