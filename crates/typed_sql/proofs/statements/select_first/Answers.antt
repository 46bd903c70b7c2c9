use Rattle.std.proofs.Common.{refl}
use Rattle.sqlite.specs.Held.{state}
use Rattle.sqlite.specs.Values.{bound}
use Rattle.typed_sql.proofs.First.{failed_within, none_first, none_reads, none_within, row_first, row_reads, row_within}
use Rattle.typed_sql.proofs.statements.select_first.Goals as goal

pub returns-in-Ok-clause-selected : goal.returns-in-Ok-clause-selected
returns-in-Ok-clause-selected g c clean =
    (c.in-Ok.row, row_first c.args.text.now (bound c.args.values.now) _ (state g.S.Store c.query_row.new.self.conn.now) c.in-Ok.row (c.in-Ok.ensures.row clean), refl)

pub returns-in-Ok-clause-still : goal.returns-in-Ok-clause-still
returns-in-Ok-clause-still g c clean =
    row_reads c.args.text.now (bound c.args.values.now) _ _ c.in-Ok.row (c.in-Ok.ensures.row clean)

pub returns-in-Ok-clause-within : goal.returns-in-Ok-clause-within
returns-in-Ok-clause-within g c =
    row_within c.args.text.now (bound c.args.values.now) _ _ c.in-Ok.row c.in-Ok.ensures.survives c.in-Ok.ensures.row

pub returns-in-Err-QueryReturnedNoRows-clause-selected : goal.returns-in-Err-QueryReturnedNoRows-clause-selected
returns-in-Err-QueryReturnedNoRows-clause-selected g c clean =
    none_first c.args.text.now (bound c.args.values.now) _ (state g.S.Store c.query_row.new.self.conn.now)
    (rw c.in-Err-QueryReturnedNoRows.field-0-is at (c.in-Err-QueryReturnedNoRows.ensures.row clean))

pub returns-in-Err-QueryReturnedNoRows-clause-still : goal.returns-in-Err-QueryReturnedNoRows-clause-still
returns-in-Err-QueryReturnedNoRows-clause-still g c clean =
    none_reads c.args.text.now (bound c.args.values.now) _ _
    (rw c.in-Err-QueryReturnedNoRows.field-0-is at (c.in-Err-QueryReturnedNoRows.ensures.row clean))

pub returns-in-Err-QueryReturnedNoRows-clause-within : goal.returns-in-Err-QueryReturnedNoRows-clause-within
returns-in-Err-QueryReturnedNoRows-clause-within g c =
    none_within c.args.text.now (bound c.args.values.now) _ _ c.in-Err-QueryReturnedNoRows.ensures.survives
    (rw c.in-Err-QueryReturnedNoRows.field-0-is at c.in-Err-QueryReturnedNoRows.ensures.row)

pub returns-in-Err-clause-within : goal.returns-in-Err-clause-within
returns-in-Err-clause-within g c =
    failed_within c.args.text.now (bound c.args.values.now) _ _ c.in-Err.error c.in-Err.ensures.survives c.in-Err.ensures.row
