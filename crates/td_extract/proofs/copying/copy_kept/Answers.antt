use Rattle.std.proofs.Common.{[], map}
use Rattle.std.proofs.lemmas.List.Sorted.{IsPermutation-refl}
use Rattle.sqlite.specs.Held.{state}
use Rattle.sqlite.specs.State.{State}
use Rattle.typed_sql.proofs.Leaving.{on_ok}
use Rattle.td_store_rows.specs.Places.{is_within}
use Rattle.td_store_rows.proofs.StoreReads.{newest_keeps}
use Rattle.td_store_rows.specs.StoreTables.{tables_in}
use Rattle.td_extract.specs.Copied.{bare_kept, kept_within, no_rows}
use Rattle.td_extract.proofs.Found.{kept_found}
use Rattle.td_extract.proofs.Rows.{turned_same}
use Rattle.td_extract.proofs.copying.copy_kept.Goals as goal

pub returns-clause-copied : goal.returns-clause-copied
returns-clause-copied g c clean clean_to =
    let a : State = state g.S.Store c.args.from.now.conn.now in
    let o : State = state g.T.Store c.args.to.now.conn.now in
    let p : State = state g.T.Store c.put_guarantees.new.tx.conn.now in
    on_ok c.put_guarantees.result
    (λ turns content holds.
    turned_same (record no_rows { kept = map bare_kept c.in_ok-rows.rows.items }) (kept_within c.args.holder c.args.first c.args.end (tables_in holds.trees.layout a.now.trees))
    (record {
      holders = IsPermutation-refl [];
      kept = kept_found holds.trees.layout a.now.trees (is_within c.args.holder c.args.first c.args.end) c.in_ok-rows.rows.items
          (c.in_ok-rows.ensures.found clean holds.trees.layout (newest_keeps holds.trees.layout holds.trees.newest) holds.schema
          (holds.trees.typed.kept (newest_keeps holds.trees.layout holds.trees.newest)));
      codes = IsPermutation-refl [];
      movements = IsPermutation-refl [];
      lines = IsPermutation-refl [];
    }) o p turns)
    (rw c.deref.ensures.value at (c.put_guarantees.ensures.put clean_to))
