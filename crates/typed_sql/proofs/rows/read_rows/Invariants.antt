use Rattle.std.proofs.Common.{◌≡◌, map, take}
use Rattle.typed_sql.proofs.rows.read_rows.Given as goal

abbrev pub invariant-loop-row : goal.invariant-loop-row
invariant-loop-row g l = map g.T.FromRow.typed l.found.items ≡ map g.T.FromRow.from (take l.row-index l.rows)
