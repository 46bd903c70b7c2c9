use Rattle.std.proofs.Common.{ap, ◌∙◌}
use Rattle.typed_sql.proofs.fetching.fetch_first.Goals as goal

pub returns-in_default-clause-found : goal.returns-in_default-clause-found
returns-in_default-clause-found g c clean = rw c.in_default.is at (c.in_ok-row.ensures.selected clean)

pub returns-clause-found : goal.returns-clause-found
returns-clause-found g c clean =
    let first = rw c.in-Some.is at (c.in_ok-row.ensures.selected clean) in
    (first.0, first.1, c.in-Some-from_row.ensures ∙ ap g.T.FromRow.from first.2)
