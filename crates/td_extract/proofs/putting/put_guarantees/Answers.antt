use Rattle.std.proofs.Common.{◌∙◌, ◌+◌, [], ◌∷◌, map, take, refl}
use Rattle.std.proofs.lemmas.List.{take_all}
use Rattle.std.proofs.lemmas.List.Sorted.{IsPermutation-refl}
use Rattle.sqlite.specs.Held.{state}
use Rattle.sqlite.specs.State.{State}
use Rattle.sqlite_trees.proofs.ListLemmas.{IsPermutation-same}
use Rattle.td_extract.specs.Copied.{Rows, bare_kept, no_rows}
use Rattle.td_table_model.specs.Tables.{without_amount}
use Rattle.td_store_rows.proofs.StoreReads.{newest_keeps}
use Rattle.td_store_rows.proofs.Turned.{kept_turned}
use Rattle.td_extract.proofs.Lists.{next_more}
use Rattle.td_extract.proofs.Rows.{AreSame, HasPut, both, nothing_put, put_then}
use Rattle.td_extract.proofs.putting.put_guarantees.Goals as goal

pub rows-init : goal.rows-init
rows-init g c = (refl, nothing_put (state g.T.Store c.args.tx.now.conn.now))

pub rows-preserved : goal.rows-preserved
rows-preserved g c = (c.insert_guarantee.ensures.same_reference ∙ c.rows.invariant.0, put_then before one after same a b d c.rows.invariant.1 inserted)
  where
    a : State
    a = state g.T.Store c.args.tx.now.conn.now

    b : State
    b = state g.T.Store c.rows.tx.conn.now

    d : State
    d = state g.T.Store c.insert_guarantee.new.tx.conn.now

    before : Rows
    before = record no_rows { kept = map bare_kept (take c.rows.row-index c.args.rows.now) }

    one : Rows
    one = record no_rows { kept = bare_kept c.row-item.result ∷ [] }

    after : Rows
    after = record no_rows { kept = map bare_kept (take (c.rows.row-index + 1) c.args.rows.now) }

    same : AreSame (both before one) after
    same = record {
      holders = IsPermutation-refl [];
      kept = IsPermutation-same _ _ (next_more bare_kept c.args.rows.now c.rows.row-index c.row-item.result _ c.rows-test.true c.row-item.is);
      codes = IsPermutation-refl [];
      movements = IsPermutation-refl [];
      lines = IsPermutation-refl [];
    }

    inserted : HasPut one b d
    inserted = record {
      within = c.in_ok-insert_guarantee.ensures.within;
      tables = λ clean l newest has typed. kept_turned l b d has typed (newest_keeps l newest) (λ rows. bare_kept c.row-item.result ∷ rows) (λ rows. without_amount (bare_kept c.row-item.result) ∷ rows) (λ ks. refl) (c.in_ok-insert_guarantee.ensures.inserted clean l (newest_keeps l newest));
    }

pub returns-clause-put : goal.returns-clause-put
returns-clause-put g c clean = rw (take_all c.rows.row-index c.args.rows.now c.rows-test.false) at (c.rows.invariant.1.tables clean)
