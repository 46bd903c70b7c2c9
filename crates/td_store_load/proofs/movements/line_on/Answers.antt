use Rattle.std.proofs.Common.{Option, subst}
use Rattle.sqlite.specs.Held.{state}
use Rattle.td_store_rows.specs.GuaranteeTable.{IsTheGuarantee, has_serial}
use Rattle.td_store_rows.specs.declared.guarantees.stored.StoredGuarantee.{StoredGuarantee}
use Rattle.td_store_load.proofs.Found.{line_loaded}
use Rattle.td_store_load.proofs.movements.line_on.Goals as goal

pub returns-clause-line : goal.returns-clause-line
returns-clause-line g c clean =
    line_loaded (state g.S.Store c.args.tx.now.conn.now) c.args.row.now c.in-Some.stored
    (subst (λ (o : Option StoredGuarantee). IsTheGuarantee (has_serial c.args.row.now.holder c.args.row.now.guarantee) (state g.S.Store c.args.tx.now.conn.now) o) c.in-Some.is
    (c.in_ok-found.ensures.found clean))
