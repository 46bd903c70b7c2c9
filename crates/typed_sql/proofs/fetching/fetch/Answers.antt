use Rattle.std.proofs.Common.{Err, List, Ok, Result, map, ◌≡◌}
use Rattle.std.specs.Prelude.{IfOk, Vec}
use Rattle.std.specs.declared.alloc.Global.{Global}
use Rattle.sqlite.specs.declared.error.Error.{Error}
use Rattle.sqlite.specs.Held.{state}
use Rattle.sqlite.specs.Values.{bound}
use Rattle.sqlite_value.specs.Order.{Row}
use Rattle.typed_sql.specs.Reading.{Fetches, Selects}
use Rattle.typed_sql.proofs.fetching.fetch.Goals as goal

pub returns-clause-found : goal.returns-clause-found
returns-clause-found g c clean =
    by_result c.read_rows.result c.in_ok-rows.rows.items (c.in_ok-rows.ensures.selected clean)
    (rw c.deref.ensures.value at c.read_rows.ensures)
  where
    by_result : (r : Result (Vec g.row.T.Denot Global) Error) (rows : List Row)
        → Selects c.args.text.now (bound c.args.values.now) (state g.S.Store c.args.tx.now.conn.now) rows
        → IfOk r (λ found. map g.T.FromRow.typed found.items ≡ map g.T.FromRow.from rows)
        → IfOk r (λ found. Fetches g.T.FromRow.typed g.T.FromRow.from c.args.text.now (bound c.args.values.now) (state g.S.Store c.args.tx.now.conn.now) found.items)
    by_result (Ok found) rows did read = (rows, did, read)
    by_result (Err e) rows did read = read
