use Rattle.std.proofs.Common.{◌≡◌, ◌∷◌, arith, refl}
use Rattle.sqlite_sql.specs.Term.{col}
use Rattle.sqlite.specs.Effect.{Database}
use Rattle.sqlite.specs.Held.{state}
use Rattle.sqlite.specs.State.{HasCleanDisk, State}
use Rattle.typed_sql.specs.Writing.{HaveIds}
use Rattle.td_schema.specs.Layouts.{guarantees_tree, lines_tree, schema_of}
use Rattle.td_store_rows.specs.Columns.{code_typing, guarantee_typing, line_typing, movement_typing}
use Rattle.td_store_audit_rows.specs.Fields.{AreCodeFields, AreGuaranteeFields, AreLineFields, AreMovementFields}
use Rattle.td_store_audit_rows.specs.Scans.{AreCodeColumns, AreGuaranteeColumns, AreLineColumns, AreMovementColumns, TellsRead}
use Rattle.td_store_audit_rows.specs.Versions.{guarantees_text, lines_text}
use Rattle.td_store_audit_rows.specs.declared.texts.TheConstants.{CODES, MOVEMENTS}
use Rattle.td_store_audit_rows.proofs.Chained.{means_at, plain_here, still_schema, still_of, unchanged_on, was_so}
use Rattle.td_store_audit_rows.proofs.Meanings.{by_rowid, code_terms, codes_mean, guarantee_terms, guarantees_mean, line_terms, lines_mean, movement_terms, movements_mean}
use Rattle.td_store_audit_rows.proofs.ReadRows.{code_read, guarantee_read, line_read, movement_read}
use Rattle.td_store_audit_rows.proofs.Telling.{tells}
use Rattle.td_store_audit_rows.proofs.tables.scan_tables.Goals as goal

pub scan-requires-clause-plain : goal.scan-requires-clause-plain
scan-requires-clause-plain g c clean =
    rw c.guarantees_at.ensures (plain_here c.args.version (guarantees_text c.args.version) (state g.S.Store c.args.conn.now).now.schema
    (λ l own. (guarantees_mean c.args.version l own).plain) (c.requires.tables clean))

pub scan-requires-2-clause-plain : goal.scan-requires-2-clause-plain
scan-requires-2-clause-plain g c clean =
    let a : State = state g.S.Store c.args.conn.now in
    let b : State = state g.S.Store c.scan.new.conn in
    let clean_a : HasCleanDisk a = omega (arith, clean, c.scan.ensures.survives.clean) in
    plain_here c.args.version CODES.now b.now.schema (λ l own. (codes_mean l).plain)
    (still_schema c.args.version a b (c.in_ok-guarantees.ensures.still clean) (c.requires.tables clean_a))

pub scan-requires-3-clause-plain : goal.scan-requires-3-clause-plain
scan-requires-3-clause-plain g c clean =
    let a : State = state g.S.Store c.args.conn.now in
    let b : State = state g.S.Store c.scan.new.conn in
    let d : State = state g.S.Store c.scan-2.new.conn in
    let clean_b : HasCleanDisk b = omega (arith, clean, c.scan-2.ensures.survives.clean) in
    let clean_a : HasCleanDisk a = omega (arith, clean_b, c.scan.ensures.survives.clean) in
    plain_here c.args.version MOVEMENTS.now d.now.schema (λ l own. (movements_mean l).plain)
    (still_schema c.args.version b d (c.in_ok-codes.ensures.still clean)
    (still_schema c.args.version a b (c.in_ok-guarantees.ensures.still clean_b) (c.requires.tables clean_a)))

pub scan-requires-4-clause-plain : goal.scan-requires-4-clause-plain
scan-requires-4-clause-plain g c clean =
    let a : State = state g.S.Store c.args.conn.now in
    let b : State = state g.S.Store c.scan.new.conn in
    let d : State = state g.S.Store c.scan-2.new.conn in
    let e : State = state g.S.Store c.scan-3.new.conn in
    let clean_d : HasCleanDisk d = omega (arith, clean, c.scan-3.ensures.survives.clean) in
    let clean_b : HasCleanDisk b = omega (arith, clean_d, c.scan-2.ensures.survives.clean) in
    let clean_a : HasCleanDisk a = omega (arith, clean_b, c.scan.ensures.survives.clean) in
    rw c.lines_at.ensures (plain_here c.args.version (lines_text c.args.version) e.now.schema (λ l own. (lines_mean c.args.version l own).plain)
    (still_schema c.args.version d e (c.in_ok-movements.ensures.still clean) (still_schema c.args.version b d (c.in_ok-codes.ensures.still clean_d)
    (still_schema c.args.version a b (c.in_ok-guarantees.ensures.still clean_b) (c.requires.tables clean_a)))))

pub returns-clause-told : goal.returns-clause-told
returns-clause-told g c clean l own at =
    let a : State = state g.S.Store c.args.conn.now in
    let b : State = state g.S.Store c.scan.new.conn in
    let d : State = state g.S.Store c.scan-2.new.conn in
    let e : State = state g.S.Store c.scan-3.new.conn in
    let clean_e : HasCleanDisk e = omega (arith, clean, c.scan-4.ensures.survives.clean) in
    let clean_d : HasCleanDisk d = omega (arith, clean_e, c.scan-3.ensures.survives.clean) in
    let clean_b : HasCleanDisk b = omega (arith, clean_d, c.scan-2.ensures.survives.clean) in
    let upto_b = c.in_ok-guarantees.ensures.still clean_b in
    let upto_d = unchanged_on a b d upto_b (c.in_ok-codes.ensures.still clean_d) in
    let upto_e = unchanged_on a d e upto_d (c.in_ok-movements.ensures.still clean_e) in
    let at_b : b.now.schema ≡ schema_of l = still_of (schema_of l) a b upto_b at in
    let at_d : d.now.schema ≡ schema_of l = still_of (schema_of l) a d upto_d at in
    let at_e : e.now.schema ≡ schema_of l = still_of (schema_of l) a e upto_e at in
    record {
      guarantees = tells (guarantee_typing l) AreGuaranteeFields AreGuaranteeColumns (guarantees_text c.args.version) (col 1 0 ∷ guarantee_terms) by_rowid (schema_of l) (guarantees_mean c.args.version l own) (λ r. refl)
          (guarantee_read l) a.now at c.in_ok-guarantees.guarantees (rw c.guarantees_at.ensures at (c.in_ok-guarantees.ensures.told clean_b));
      codes = was_so (λ (db : Database). TellsRead code_typing AreCodeFields db.trees c.in_ok-codes.codes) a b upto_b
          (tells code_typing AreCodeFields AreCodeColumns CODES.now (col 1 0 ∷ code_terms) by_rowid (schema_of l) (codes_mean l) (λ r. refl)
          code_read b.now at_b c.in_ok-codes.codes (c.in_ok-codes.ensures.told clean_d));
      movements = was_so (λ (db : Database). TellsRead movement_typing AreMovementFields db.trees c.in_ok-movements.movements) a d upto_d
          (tells movement_typing AreMovementFields AreMovementColumns MOVEMENTS.now (col 1 0 ∷ movement_terms) by_rowid (schema_of l) (movements_mean l) (λ r. refl)
          movement_read d.now at_d c.in_ok-movements.movements (c.in_ok-movements.ensures.told clean_e));
      lines = was_so (λ (db : Database). TellsRead (line_typing l) AreLineFields db.trees c.in_ok-lines.lines) a e upto_e
          (tells (line_typing l) AreLineFields AreLineColumns (lines_text c.args.version) (col 1 0 ∷ line_terms) by_rowid (schema_of l) (lines_mean c.args.version l own) (λ r. refl)
          (line_read l) e.now at_e c.in_ok-lines.lines (rw c.lines_at.ensures at (c.in_ok-lines.ensures.told clean)));
    }

pub returns-clause-ids : goal.returns-clause-ids
returns-clause-ids g c clean l own at =
    let a : State = state g.S.Store c.args.conn.now in
    let b : State = state g.S.Store c.scan.new.conn in
    let d : State = state g.S.Store c.scan-2.new.conn in
    let e : State = state g.S.Store c.scan-3.new.conn in
    let clean_e : HasCleanDisk e = omega (arith, clean, c.scan-4.ensures.survives.clean) in
    let clean_d : HasCleanDisk d = omega (arith, clean_e, c.scan-3.ensures.survives.clean) in
    let clean_b : HasCleanDisk b = omega (arith, clean_d, c.scan-2.ensures.survives.clean) in
    let upto_b = c.in_ok-guarantees.ensures.still clean_b in
    let upto_d = unchanged_on a b d upto_b (c.in_ok-codes.ensures.still clean_d) in
    let upto_e = unchanged_on a d e upto_d (c.in_ok-movements.ensures.still clean_e) in
    let at_b : b.now.schema ≡ schema_of l = still_of (schema_of l) a b upto_b at in
    let at_d : d.now.schema ≡ schema_of l = still_of (schema_of l) a d upto_d at in
    let at_e : e.now.schema ≡ schema_of l = still_of (schema_of l) a e upto_e at in
    record {
      guarantees = (rw c.guarantees_at.ensures at (c.in_ok-guarantees.ensures.ids clean_b)) (guarantees_tree l) guarantee_terms by_rowid
          (means_at (guarantees_text c.args.version) (guarantees_tree l) (col 1 0 ∷ guarantee_terms) by_rowid (schema_of l) a.now.schema at (guarantees_mean c.args.version l own));
      codes = was_so (λ (db : Database). HaveIds (db.trees 2)) a b upto_b (c.in_ok-codes.ensures.ids clean_d 2 code_terms by_rowid
          (means_at CODES.now 2 (col 1 0 ∷ code_terms) by_rowid (schema_of l) b.now.schema at_b (codes_mean l)));
      movements = was_so (λ (db : Database). HaveIds (db.trees 4)) a d upto_d (c.in_ok-movements.ensures.ids clean_e 4 movement_terms by_rowid
          (means_at MOVEMENTS.now 4 (col 1 0 ∷ movement_terms) by_rowid (schema_of l) d.now.schema at_d (movements_mean l)));
      lines = was_so (λ (db : Database). HaveIds (db.trees (lines_tree l))) a e upto_e ((rw c.lines_at.ensures at (c.in_ok-lines.ensures.ids clean)) (lines_tree l) line_terms by_rowid
          (means_at (lines_text c.args.version) (lines_tree l) (col 1 0 ∷ line_terms) by_rowid (schema_of l) e.now.schema at_e (lines_mean c.args.version l own)));
    }
