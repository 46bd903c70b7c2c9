use Rattle.std.proofs.Common.{[], refl, ◌∷◌}
use Rattle.sqlite.specs.Held.{state}
use Rattle.sqlite_sql.specs.Term.{col}
use Rattle.typed_sql.specs.Reading.{row_order}
use Rattle.td_store_audit_rows.proofs.Rising.{ids_of_rising}
use Rattle.td_store_audit_rows.proofs.Shown.{ids_of_rows}
use Rattle.td_store_audit_rows.proofs.ids.ids_rise.Goals as goal

pub returns-clause-ids : goal.returns-clause-ids
returns-clause-ids g c clean tree shows order means =
    let old = state g.S.Store c.args.conn.now in
    let walked = c.in_ok-walk.ensures.seen clean c.none_yet-ids.ensures in
    ids_of_rows shows (old.now.trees tree) walked.0 (row_order order [])
    (walked.1 old.now.schema tree [] (col 1 0 ∷ shows) order (λ _. refl) means) (ids_of_rising walked.0 (walked.2.told.0 c.if-not-ids.false))
