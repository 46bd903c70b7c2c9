use Rattle.std.proofs.Common.{◌≡◌, ◌∷◌, ◌++◌, [], ◌+◌, ◌<◌, ◌∙◌, true, inr, refl, sym, ap, map, take, length, rules}
use Rattle.std.proofs.lemmas.List.{length-map, take-map, take_more}
use Rattle.std.specs.Result.{is_ok}
use Rattle.td_journal_lines.specs.Rows.{numbered}
use Rattle.td_replay.specs.Replays.{replies_header}
use Rattle.td_replay.proofs.Counting.{first_more}
use Rattle.td_replay.proofs.RowsDone.{all_done, begun, done_more, stopped_at}
use Rattle.td_replay.proofs.replaying.replay.Goals as goal

pub loop-row-init : goal.loop-row-init
loop-row-init g c =
    let good : is_ok c.extend_from_slice.result ≡ true = search rules in
    let header : c.extend_from_slice.new.self.items ≡ replies_header = rw (good, c.new-text.ensures.items) at c.extend_from_slice.ensures.items in
    (refl, begun g.D.Desk.seen (map numbered c.args.rows.now) c.args.desk.now _ header)

pub loop-row-preserved : goal.loop-row-preserved
loop-row-preserved g c =
    let inv = c.loop-row.invariant in
    let i = c.loop-row.row-index in
    let rows = c.args.rows.now in
    let row = c.row-item.result in
    let more : take (i + 1) rows ≡ take i rows ++ row ∷ [] = take_more rows i row c.loop-row-test.true ∙ ap (λ s. take i rows ++ s ∷ []) (sym c.row-item.is) in
    let next : take (i + 1) (map numbered rows) ≡ take i (map numbered rows) ++ numbered row ∷ [] =
    take-map numbered (i + 1) rows ∙ (first_more numbered rows i row more ∙ ap (λ ys. ys ++ numbered row ∷ []) (sym (take-map numbered i rows))) in
    let within : i < length (map numbered rows) = rw (length-map rows numbered) c.loop-row-test.true in
    rw c.difference_with-differs.ensures (
      ap (λ n. n + 1) inv.0,
      done_more g.D.Desk.seen (map numbered rows) c.args.desk.now i c.loop-row.text.items c.loop-row.differs c.loop-row.desk c.do_row.new.desk (numbered row) inv.1 within
          next _ c.in-Ok.is_same c.in-Ok.ensures.told,
    )

pub returns-in-Err : goal.returns-in-Err
returns-in-Err g c =
    let inv = c.loop-row.invariant in
    let i = c.loop-row.row-index in
    let rows = c.args.rows.now in
    let row = c.row-item.result in
    let more : take (i + 1) rows ≡ take i rows ++ row ∷ [] = take_more rows i row c.loop-row-test.true ∙ ap (λ s. take i rows ++ s ∷ []) (sym c.row-item.is) in
    let next : take (i + 1) (map numbered rows) ≡ take i (map numbered rows) ++ numbered row ∷ [] =
    take-map numbered (i + 1) rows ∙ (first_more numbered rows i row more ∙ ap (λ ys. ys ++ numbered row ∷ []) (sym (take-map numbered i rows))) in
    let within : i < length (map numbered rows) = rw (length-map rows numbered) c.loop-row-test.true in
    inr (stopped_at g.D.Desk.seen (map numbered rows) c.args.desk.now i c.loop-row.text.items c.loop-row.differs c.loop-row.desk c.do_row.new.desk (numbered row) inv.1 within
    next _ c.in-Err.fault c.in-Err.ensures.stopped inv.0 c.in-Err.ensures.none refl refl)

pub returns : goal.returns
returns g c =
    let inv = c.loop-row.invariant in
    let all : c.loop-row.row-index ≡ length c.args.rows.now = search rules in
    inr (all_done g.D.Desk.seen (map numbered c.args.rows.now) c.args.desk.now _ c.loop-row.row-index c.loop-row.text.items c.loop-row.differs c.loop-row.desk inv.1 inv.0 refl refl
    (all ∙ sym (length-map c.args.rows.now numbered)) refl)
