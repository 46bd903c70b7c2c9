use Rattle.std.proofs.Common.{List, arith, map, subst, sym, refl}
use Rattle.sqlite.specs.Held.{state}
use Rattle.sqlite.specs.State.{State, HasCleanDisk}
use Rattle.td_store_rows.proofs.StoreReads.{newest_more_lines, reads_less, reads_on}
use Rattle.td_store_rows.specs.LineTable.{line_row_of as row_of_line}
use Rattle.td_store_rows.specs.declared.lines.stored.StoredLine.{StoredLine}
use Rattle.td_movement.specs.declared.line.Line.{Line}
use Rattle.td_store_rows.specs.MovementTable.{movement_row_of}
use Rattle.td_table_model.specs.Gathering.{with_lines}
use Rattle.td_store_load.specs.Loaded.{IsOfTables, line_of}
use Rattle.td_store_load.specs.Needed.{AreTermsOf}
use Rattle.td_store_load.proofs.Reading.{held_after}
use Rattle.td_store_load.proofs.ReadOnce.{movement_of}
use Rattle.td_store_load.proofs.releases.movement_with_terms.Goals as goal

pub returns-clause-whole : goal.returns-clause-whole
returns-clause-whole g c clean =
    subst (λ (l : List Line). IsOfTables (λ t. with_lines t (movement_row_of c.args.stored)) a (record c.args.stored.movement { lines = l })) (sym c.new.ensures)
    (movement_of a b c.args.stored c.in_ok-rows.rows.items c.in_ok-found.found.0.items (c.in_ok-rows.ensures.order clean_b) ((reads_less newest_more_lines c.in_ok-rows.ensures.reads).still clean_b refl)
    (subst (λ (rows : List StoredLine). IsOfTables (λ t. map (λ r. line_of c.args.stored.holder t (row_of_line r)) rows) b c.in_ok-found.found.0.items) c.deref.ensures.value (c.in_ok-found.ensures.lines clean)))
  where
    a : State
    a = state g.S.Store c.args.tx.now.conn.now

    b : State
    b = state g.S.Store c.lines_of.new.tx.conn.now

    clean_b : HasCleanDisk b
    clean_b = omega (arith, clean, c.lines_with_terms.ensures.reads.within.survives.clean)

pub returns-clause-terms : goal.returns-clause-terms
returns-clause-terms g c clean content holds =
    subst (λ (l : List Line). AreTermsOf c.args.stored.holder a l c.in_ok-found.found.1.items) (sym c.new.ensures)
    (λ content holds. c.in_ok-found.ensures.terms clean content (held_after content a b ((reads_less newest_more_lines c.in_ok-rows.ensures.reads).still clean_b refl) holds)) content holds
  where
    a : State
    a = state g.S.Store c.args.tx.now.conn.now

    b : State
    b = state g.S.Store c.lines_of.new.tx.conn.now

    clean_b : HasCleanDisk b
    clean_b = omega (arith, clean, c.lines_with_terms.ensures.reads.within.survives.clean)

pub returns-clause-reads : goal.returns-clause-reads
returns-clause-reads g c = reads_on (reads_less newest_more_lines c.in_ok-rows.ensures.reads) c.in_ok-found.ensures.reads
