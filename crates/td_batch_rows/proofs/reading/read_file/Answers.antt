use Rattle.std.proofs.Common.{Bor, List, ℕ, Ok, Err, ◌≡◌, ◌∙◌, sym, refl, rules, inl, inr, true, Some, ◌∷◌, ◌++◌, []}
use Rattle.csv.specs.Reading.{Reached, default_config, strip_bom}
use Rattle.csv.specs.Records.{fields_of}
use Rattle.csv.specs.declared.parser.State.TheVariants as st
use Rattle.csv.proofs.ReadFacts.{rows-end, rows-more}
use Rattle.std.specs.Prelude.{IfErr}
use Rattle.td_batch_rows.specs.Rows.{Tells, file_in}
use Rattle.td_batch_rows.proofs.RecordsFacts.{all_records, records_begin}
use Rattle.td_batch_rows.proofs.Taking.{all_taken, none_taken}
use Rattle.td_batch_rows.proofs.reading.read_file.Goals as goal

pub loop-record-init : goal.loop-record-init
unfolding Reached
loop-record-init g c =
    let fr = c.from_reader.ensures in
    let e = c.has_headers.ensures in
    let f = c.flexible.ensures in
    let start = c.into_iter-record-iterator.ensures.into_iter_gives in
    let rdr = c.into_byte_records-records.ensures.rdr in
    let left = c.into_byte_records-records.ensures.left in
    rw (start, rdr, c.new-rows.ensures.items) (
      rw (f, e, c.new.ensures.trim) at fr.trim,
      inr (inr (rw (f, e) at fr.has_headers, fr.headers)),
      left,
      rw (f, e, c.new.ensures.config) at fr.config,
      strip_bom c.args.bytes.now,
      fr.source,
      [],
      (sym fr.state, refl),
      (refl, refl),
    )

pub loop-record-preserved : goal.loop-record-preserved
loop-record-preserved g c =
    let inv = c.loop-record.invariant in
    let fields = fields_of c.in-Ok.record in
    let s = rw (c.in-Some.is, c.in-Ok.is) at ((c.next.ensures.steps inv.2 inv.0).0 inv.1) in
    let m = rows-more (λ (s : Bor (List ℕ)). Some s.now) c.loop-record.record-iterator.rdr c.next.new.self.rdr fields default_config st.StartRecord (strip_bom c.args.bytes.now) inv.4 inv.6 inv.3 inv.5 inv.7 s.0 in
    let taken : file_in g.R.FileRow.is_header g.R.FileRow.row_of (inv.6 ++ fields ∷ []) ≡ Ok c.take_record.new.rows.items = search rules in
    (s.0.3 ∙ inv.0, inl s.1, s.2, s.0.2 ∙ inv.3, m.0, m.1, inv.6 ++ fields ∷ [], m.2, taken)

pub returns-clause-all : goal.returns-clause-all
returns-clause-all g c =
    let inv = c.loop-record.invariant in
    let s = rw c.in-None.is at ((c.next.ensures.steps inv.2 inv.0).0 inv.1) in
    let none = rows-end (λ (s : Bor (List ℕ)). Some s.now) c.loop-record.record-iterator.rdr c.next.new.self.rdr [] default_config inv.4 inv.3 inv.5 s in
    let all = all_records (strip_bom c.args.bytes.now) inv.6 c.loop-record.record-iterator.rdr.state inv.4 inv.7 none in
    let headed : c.loop-record.headed ≡ true = search rules in
    rw all (all_taken g.R.FileRow.is_header g.R.FileRow.row_of c.loop-record.headed inv.6 c.loop-record.rows.items headed inv.8)

pub returns-then-not-headed-clause-bad : goal.returns-then-not-headed-clause-bad
returns-then-not-headed-clause-bad g c =
    let inv = c.loop-record.invariant in
    let s = rw c.in-None.is at ((c.next.ensures.steps inv.2 inv.0).0 inv.1) in
    let none = rows-end (λ (s : Bor (List ℕ)). Some s.now) c.loop-record.record-iterator.rdr c.next.new.self.rdr [] default_config inv.4 inv.3 inv.5 s in
    let all = all_records (strip_bom c.args.bytes.now) inv.6 c.loop-record.record-iterator.rdr.state inv.4 inv.7 none in
    rw all (none_taken g.R.FileRow.is_header g.R.FileRow.row_of c.loop-record.headed inv.6 c.loop-record.rows.items c.if-not-headed.true inv.8)

pub returns-in_err-take_record-clause-bad : goal.returns-in_err-take_record-clause-bad
returns-in_err-take_record-clause-bad g c =
    let inv = c.loop-record.invariant in
    let fields = fields_of c.in-Ok.record in
    let s = rw (c.in-Some.is, c.in-Ok.is) at ((c.next.ensures.steps inv.2 inv.0).0 inv.1) in
    let m = rows-more (λ (s : Bor (List ℕ)). Some s.now) c.loop-record.record-iterator.rdr c.next.new.self.rdr fields default_config st.StartRecord (strip_bom c.args.bytes.now) inv.4 inv.6 inv.3 inv.5 inv.7 s.0 in
    let begins = records_begin (strip_bom c.args.bytes.now) inv.6 fields c.next.new.self.rdr.state m.0 m.2 in
    let told : IfErr c.take_record.result (Tells (file_in g.R.FileRow.is_header g.R.FileRow.row_of (inv.6 ++ fields ∷ begins.0))) = c.take_record.ensures.told inv.6 begins.0 inv.8 in
    let same : c.from_residual.result ≡ Err c.in_err-take_record.field-0.0 = search rules in
    rw (same, begins.1) (rw c.in_err-take_record.was at told)
