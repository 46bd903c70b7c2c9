use Rattle.std.proofs.Common.{◌∙◌, ◌+◌, [], ◌∷◌, map, take, refl}
use Rattle.std.proofs.lemmas.List.{take_all}
use Rattle.std.proofs.lemmas.List.Sorted.{IsPermutation-refl}
use Rattle.sqlite.specs.Held.{state}
use Rattle.sqlite.specs.State.{State}
use Rattle.sqlite_trees.proofs.ListLemmas.{IsPermutation-same}
use Rattle.td_store_rows.specs.LineTable.{line_row_of}
use Rattle.td_store_rows.proofs.StoreReads.{newest_more_lines}
use Rattle.td_store_rows.proofs.Turned.{lines_turned}
use Rattle.td_extract.specs.Copied.{Rows, no_rows}
use Rattle.td_extract.proofs.Lists.{next_more}
use Rattle.td_extract.proofs.Rows.{AreSame, HasPut, both, nothing_put, put_then}
use Rattle.td_extract.proofs.putting.put_lines.Goals as goal

pub rows-init : goal.rows-init
rows-init g c = (refl, nothing_put (state g.T.Store c.args.tx.now.conn.now))

pub rows-preserved : goal.rows-preserved
rows-preserved g c = (c.insert_line.ensures.same_reference ∙ c.rows.invariant.0, put_then before one after same a b d c.rows.invariant.1 inserted)
  where
    a : State
    a = state g.T.Store c.args.tx.now.conn.now

    b : State
    b = state g.T.Store c.rows.tx.conn.now

    d : State
    d = state g.T.Store c.insert_line.new.tx.conn.now

    before : Rows
    before = record no_rows { lines = map line_row_of (take c.rows.row-index c.args.rows.now) }

    one : Rows
    one = record no_rows { lines = line_row_of c.row-item.result ∷ [] }

    after : Rows
    after = record no_rows { lines = map line_row_of (take (c.rows.row-index + 1) c.args.rows.now) }

    same : AreSame (both before one) after
    same = record {
      holders = IsPermutation-refl [];
      kept = IsPermutation-refl [];
      codes = IsPermutation-refl [];
      movements = IsPermutation-refl [];
      lines = IsPermutation-same _ _ (next_more line_row_of c.args.rows.now c.rows.row-index c.row-item.result _ c.rows-test.true c.row-item.is);
    }

    inserted : HasPut one b d
    inserted = record {
      within = c.in_ok-insert_line.ensures.within;
      tables = λ clean l newest has typed. lines_turned l b d has typed (λ rows. line_row_of c.row-item.result ∷ rows) (c.in_ok-insert_line.ensures.inserted clean l (newest_more_lines l newest));
    }

pub returns-clause-put : goal.returns-clause-put
returns-clause-put g c clean = rw (take_all c.rows.row-index c.args.rows.now c.rows-test.false) at (c.rows.invariant.1.tables clean)
