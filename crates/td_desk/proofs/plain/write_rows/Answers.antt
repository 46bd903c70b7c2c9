use Rattle.std.proofs.Common.{◌≡◌, ◌≢◌, ◌<◌, length, get_or, sym, ◌∙◌, ap, subst, arith}
use Rattle.std.proofs.lemmas.Bool.Decides.{nat_tests}
use Rattle.std.proofs.lemmas.List.{get_or_default}
use Rattle.std.proofs.lemmas.Result.{on_ok_weaker}
use Rattle.td_model.specs.Account.{HolderRows, holder_key}
use Rattle.td_model.specs.Changes.{rows_after}
use Rattle.keyed_rows.specs.Rows.{Rises}
use Rattle.keyed_rows.proofs.Places.{below}
use Rattle.td_desk.proofs.Storing.{stored_in_place, order_stays, stored_new, order_new}
use Rattle.td_desk.proofs.plain.write_rows.Goals as goal
use Rattle.td_desk.proofs.plain.write_rows.Goals.{else-at-len-via-then-at-len+else-eq, else-at-len-via-else-at-len}

-- the holder's file with the change
pub returns-then-eq-clause-ok : goal.returns-then-eq-clause-ok
returns-then-eq-clause-ok c =
    let files = c.args.files.now.items in
    let n = c.rows_below-at.result in
    let old = c.index_mut.result.now in
    let within : n < length files = omega (arith, c.if-at-len.true, c.len.ensures, c.args.files.now.ok.0) in
    let there : c.index.result.now.row.holder ≡ c.args.row.holder = grind (arith, nat_tests, c.holder.ensures, c.eq.ensures, c.if-eq.true) in
    let same : old.row.holder ≡ c.args.row.holder = ap holder_key (c.index_mut.ensures.value ∙ get_or_default files n old c.index.result.now within ∙ sym c.index.ensures) ∙ there in
    on_ok_weaker c.write.result
    (stored_in_place files c.args.row c.args.change n c.requires.order c.requires.row (c.rows_below-at.ensures.value ∙ ap (λ k. below holder_key k c.deref.result.now) c.number.ensures.value ∙ ap (below holder_key c.args.row.holder) c.deref.ensures.value)
    c.write.new.self old within c.index_mut.ensures.value same)
    c.write.ensures.ok

-- the order stays
pub returns-then-eq-clause-order : goal.returns-then-eq-clause-order
returns-then-eq-clause-order c =
    let files = c.args.files.now.items in
    let n = c.rows_below-at.result in
    let old = c.index_mut.result.now in
    let within : n < length files = omega (arith, c.if-at-len.true, c.len.ensures, c.args.files.now.ok.0) in
    let there : c.index.result.now.row.holder ≡ c.args.row.holder = grind (arith, nat_tests, c.holder.ensures, c.eq.ensures, c.if-eq.true) in
    let same : old.row.holder ≡ c.args.row.holder = ap holder_key (c.index_mut.ensures.value ∙ get_or_default files n old c.index.result.now within ∙ sym c.index.ensures) ∙ there in
    order_stays files c.args.row c.args.change n c.requires.order c.requires.row (c.rows_below-at.ensures.value ∙ ap (λ k. below holder_key k c.deref.result.now) c.number.ensures.value ∙ ap (below holder_key c.args.row.holder) c.deref.ensures.value)
    c.write.result c.write.new.self old within c.index_mut.ensures.value same c.write.ensures.ok c.write.ensures.err

-- a new holder's file
pub returns-clause-ok : goal.returns-clause-ok
returns-clause-ok c =
    let files = c.args.files.now.items in
    let n = c.rows_below-at.result in
    let other : (d : HolderRows) → n < length files → (get_or files n d).row.holder ≢ c.args.row.holder = λ d within same. elim c.else-at-len.branch [
      | else-at-len-via-then-at-len+else-eq w ↦
          let here : w.index.result.now.row.holder ≡ c.args.row.holder = ap holder_key (w.index.ensures ∙ get_or_default files n w.index.result.now d within) ∙ same in
          grind (arith, nat_tests, here, w.holder.ensures, w.eq.ensures, w.if-eq.false)
      | else-at-len-via-else-at-len w ↦ absurd (omega (arith, within, w.if-at-len.false, c.len.ensures, c.args.files.now.ok.0))
    ] in
    c.in_ok-insert.ensures.items
    ∙ (stored_new files c.args.row c.args.change n c.requires.order c.requires.row (c.rows_below-at.ensures.value ∙ ap (λ k. below holder_key k c.deref.result.now) c.number.ensures.value ∙ ap (below holder_key c.args.row.holder) c.deref.ensures.value)
    c.write-2.new.self other (c.in_ok-write.ensures.ok ∙ ap (rows_after c.args.change) c.new-file.ensures))

-- the order stays
pub returns-clause-order : goal.returns-clause-order
returns-clause-order c =
    let files = c.args.files.now.items in
    let n = c.rows_below-at.result in
    let other : (d : HolderRows) → n < length files → (get_or files n d).row.holder ≢ c.args.row.holder = λ d within same. elim c.else-at-len.branch [
      | else-at-len-via-then-at-len+else-eq w ↦
          let here : w.index.result.now.row.holder ≡ c.args.row.holder = ap holder_key (w.index.ensures ∙ get_or_default files n w.index.result.now d within) ∙ same in
          grind (arith, nat_tests, here, w.holder.ensures, w.eq.ensures, w.if-eq.false)
      | else-at-len-via-else-at-len w ↦ absurd (omega (arith, within, w.if-at-len.false, c.len.ensures, c.args.files.now.ok.0))
    ] in
    subst (Rises holder_key 0) (sym c.in_ok-insert.ensures.items)
    (order_new files c.args.row c.args.change n c.requires.order c.requires.row (c.rows_below-at.ensures.value ∙ ap (λ k. below holder_key k c.deref.result.now) c.number.ensures.value ∙ ap (below holder_key c.args.row.holder) c.deref.ensures.value)
    c.write-2.new.self other (c.in_ok-write.ensures.ok ∙ ap (rows_after c.args.change) c.new-file.ensures))
