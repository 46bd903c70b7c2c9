use Rattle.std.proofs.Common.{◌≡◌, ◌∷◌, ◌++◌, [], ◌+◌, ◌<◌, ◌∙◌, true, inr, refl, sym, ap, map, take, length, rules, w64}
use Rattle.std.proofs.lemmas.Int.{to_z-of_z}
use Rattle.std.proofs.lemmas.List.{length-map, take_more}
use Rattle.std.specs.Result.{is_ok}
use Rattle.td_batch.proofs.Done.{begun, done_more, stopped_at, all_done, first_more}
use Rattle.td_batch.proofs.running.run_rows.Goals as goal

pub loop-row-init : goal.loop-row-init
loop-row-init g c =
    let good : is_ok c.extend_from_slice.result ≡ true = search rules in
    let header : c.extend_from_slice.new.self.items ≡ c.args.header.now = rw (good, c.new-text.ensures.items, c.as_bytes.ensures.value) at c.extend_from_slice.ensures.items in
    rw (to_z-of_z w64 c.args.at c.ranges.at) (
      refl,
      begun g.D.Desk.seen g.R.BatchRow.line c.args.header.now c.args.at (map g.R.BatchRow.command c.args.rows.now) c.args.desk.now _ header,
    )

pub loop-row-preserved : goal.loop-row-preserved
loop-row-preserved g c =
    let moment = to_z-of_z w64 c.args.at c.ranges.at in
    let inv = c.loop-row.invariant in
    let i = c.loop-row.row-index in
    let command = g.R.BatchRow.command in
    let more : take (i + 1) c.args.rows.now ≡ take i c.args.rows.now ++ c.row-item.result ∷ [] =
    take_more c.args.rows.now i c.row-item.result c.loop-row-test.true ∙ ap (λ s. take i c.args.rows.now ++ s ∷ []) (sym c.row-item.is) in
    let within : i < length (map command c.args.rows.now) = rw (length-map c.args.rows.now command) c.loop-row-test.true in
    rw (moment, c.is_refusal-has_refusal.ensures) (
      ap (λ n. n + 1) inv.0,
      done_more g.D.Desk.seen g.R.BatchRow.line c.args.header.now c.args.at (map command c.args.rows.now) c.args.desk.now
          i c.loop-row.text.items c.loop-row.has_refusal c.loop-row.desk c.do_row.new.desk (command c.row-item.result) (rw moment at inv.1) within
          (first_more command c.args.rows.now i c.row-item.result more) c.in-Ok.said _ (rw moment at c.in-Ok.ensures.done) c.in-Ok.ensures.text,
    )

pub returns-in-Err : goal.returns-in-Err
returns-in-Err g c =
    let moment = to_z-of_z w64 c.args.at c.ranges.at in
    let inv = c.loop-row.invariant in
    let i = c.loop-row.row-index in
    let command = g.R.BatchRow.command in
    let more : take (i + 1) c.args.rows.now ≡ take i c.args.rows.now ++ c.row-item.result ∷ [] =
    take_more c.args.rows.now i c.row-item.result c.loop-row-test.true ∙ ap (λ s. take i c.args.rows.now ++ s ∷ []) (sym c.row-item.is) in
    let within : i < length (map command c.args.rows.now) = rw (length-map c.args.rows.now command) c.loop-row-test.true in
    inr (stopped_at g.D.Desk.seen g.R.BatchRow.line c.args.header.now c.args.at (map command c.args.rows.now) c.args.desk.now
    i c.loop-row.text.items c.loop-row.has_refusal c.loop-row.desk c.do_row.new.desk (command c.row-item.result) (rw moment at inv.1) within
    (first_more command c.args.rows.now i c.row-item.result more) _ c.in-Err.fault (rw moment at c.in-Err.ensures.done) inv.0 c.in-Err.ensures.none refl refl)

pub returns : goal.returns
returns g c =
    let moment = to_z-of_z w64 c.args.at c.ranges.at in
    let inv = c.loop-row.invariant in
    let command = g.R.BatchRow.command in
    let all : c.loop-row.row-index ≡ length c.args.rows.now = search rules in
    inr (all_done g.D.Desk.seen g.R.BatchRow.line c.args.header.now c.args.at (map command c.args.rows.now) c.args.desk.now
    _ c.loop-row.row-index c.loop-row.text.items c.loop-row.has_refusal c.loop-row.desk (rw moment at inv.1) inv.0 refl refl (all ∙ sym (length-map c.args.rows.now command)) refl)
