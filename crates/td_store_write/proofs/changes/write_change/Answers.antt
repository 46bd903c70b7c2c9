use Rattle.std.proofs.Common.{sym, subst}
use Rattle.std.specs.Prelude.{OnOk}
use Rattle.sqlite.specs.Held.{state}
use Rattle.td_store_write.specs.Written.{WritesChange}
use Rattle.td_store_write.proofs.AsSaid.{added_written, declared_written, moved_written, registered_written, removed_written, terms_written}
use Rattle.typed_sql.proofs.Leaving.{on_ok}
use Rattle.td_store_write.proofs.changes.write_change.Goals as goal

pub returns-in-Registered-clause-written : goal.returns-in-Registered-clause-written
returns-in-Registered-clause-written g c clean =
    let old = state g.S.Store c.args.tx.now.conn.now in
    let new = state g.S.Store c.insert_holder.new.tx.conn.now in
    subst (λ change. OnOk c.insert_holder.result (WritesChange c.args.country change old new)) (sym c.in-Registered.is)
    (on_ok c.insert_holder.result (registered_written c.args.country c.in-Registered.row old new) (c.insert_holder.ensures.inserted clean))

pub returns-in-Declared-clause-written : goal.returns-in-Declared-clause-written
returns-in-Declared-clause-written g c clean =
    let old = state g.S.Store c.args.tx.now.conn.now in
    let new = state g.S.Store c.write_declared.new.tx.conn.now in
    subst (λ change. OnOk c.write_declared.result (WritesChange c.args.country change old new)) (sym c.in-Declared.is)
    (on_ok c.write_declared.result (declared_written c.args.country c.in-Declared.row c.in-Declared.movement old new) (c.write_declared.ensures.written clean))

pub returns-in-Moved-clause-written : goal.returns-in-Moved-clause-written
returns-in-Moved-clause-written g c clean =
    let old = state g.S.Store c.args.tx.now.conn.now in
    let new = state g.S.Store c.write_moved.new.tx.conn.now in
    subst (λ change. OnOk c.write_moved.result (WritesChange c.args.country change old new)) (sym c.in-Moved.is)
    (on_ok c.write_moved.result (moved_written c.args.country c.in-Moved.row c.in-Moved.status old new) (c.write_moved.ensures.written clean))

pub returns-in-TermsSet-clause-written : goal.returns-in-TermsSet-clause-written
returns-in-TermsSet-clause-written g c clean =
    let old = state g.S.Store c.args.tx.now.conn.now in
    let new = state g.S.Store c.write_terms.new.tx.conn.now in
    subst (λ change. OnOk c.write_terms.result (WritesChange c.args.country change old new)) (sym c.in-TermsSet.is)
    (on_ok c.write_terms.result (terms_written c.args.country c.in-TermsSet.row c.in-TermsSet.terms old new) (c.write_terms.ensures.written clean))

pub returns-in-CodeAdded-clause-written : goal.returns-in-CodeAdded-clause-written
returns-in-CodeAdded-clause-written g c clean =
    let old = state g.S.Store c.args.tx.now.conn.now in
    let new = state g.S.Store c.add_code.new.tx.conn.now in
    subst (λ change. OnOk c.add_code.result (WritesChange c.args.country change old new)) (sym c.in-CodeAdded.is)
    (on_ok c.add_code.result (added_written c.args.country c.in-CodeAdded.row c.in-CodeAdded.grn c.in-CodeAdded.code old new) (c.add_code.ensures.written clean))

pub returns-in-CodeRemoved-clause-written : goal.returns-in-CodeRemoved-clause-written
returns-in-CodeRemoved-clause-written g c clean =
    let old = state g.S.Store c.args.tx.now.conn.now in
    let new = state g.S.Store c.remove_code.new.tx.conn.now in
    subst (λ change. OnOk c.remove_code.result (WritesChange c.args.country change old new)) (sym c.in-CodeRemoved.is)
    (on_ok c.remove_code.result (removed_written c.args.country c.in-CodeRemoved.row c.in-CodeRemoved.grn c.in-CodeRemoved.code old new) (c.remove_code.ensures.written clean))
