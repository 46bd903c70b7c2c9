use Rattle.std.proofs.Common.{◌≡◌, [], arith}
use Rattle.sqlite.specs.Effect.{Database}
use Rattle.sqlite.specs.Held.{state}
use Rattle.sqlite.specs.State.{HasCleanDisk, State}
use Rattle.typed_sql.proofs.Leaving.{on_ok}
use Rattle.typed_sql.specs.Writing.{HaveIds}
use Rattle.td_schema.specs.Layouts.{schema_of}
use Rattle.td_store_audit_rows.specs.Ids.{HavePartIds}
use Rattle.td_store_audit_rows.specs.declared.texts.TheConstants.{HOLDER_IDS, META_IDS}
use Rattle.td_store_audit_rows.proofs.Chained.{means_at, plain_here, still_schema, still_of, unchanged_on, was_so}
use Rattle.td_store_audit_rows.proofs.Meanings.{by_rowid, holder_ids_mean, meta_ids_mean, rowid_alone}
use Rattle.td_store_audit_rows.proofs.tables.readable_tables.Goals as goal

pub ids_rise-requires-clause-plain : goal.ids_rise-requires-clause-plain
ids_rise-requires-clause-plain g c clean =
    plain_here c.args.version META_IDS.now (state g.S.Store c.args.conn.now).now.schema (λ l own. (meta_ids_mean l).plain) (c.requires.tables clean)

pub ids_rise-requires-2-clause-plain : goal.ids_rise-requires-2-clause-plain
ids_rise-requires-2-clause-plain g c clean =
    let a : State = state g.S.Store c.args.conn.now in
    let b : State = state g.S.Store c.ids_rise.new.conn in
    let clean_a : HasCleanDisk a = omega (arith, clean, c.ids_rise.ensures.survives.clean) in
    plain_here c.args.version HOLDER_IDS.now b.now.schema (λ l own. (holder_ids_mean l).plain)
    (still_schema c.args.version a b (c.in_ok-ids_rise.ensures.still clean) (c.requires.tables clean_a))

pub returns-clause-ids : goal.returns-clause-ids
returns-clause-ids g c clean =
    let a : State = state g.S.Store c.args.conn.now in
    let b : State = state g.S.Store c.ids_rise.new.conn in
    let d : State = state g.S.Store c.ids_rise-2.new.conn in
    let clean_d : HasCleanDisk d = omega (arith, clean, c.scan_tables.ensures.survives.clean) in
    let clean_b : HasCleanDisk b = omega (arith, clean_d, c.ids_rise-2.ensures.survives.clean) in
    let upto_b = c.in_ok-ids_rise.ensures.still clean_b in
    let upto_d = unchanged_on a b d upto_b (c.in_ok-ids_rise-2.ensures.still clean_d) in
    on_ok c.scan_tables.result (λ held l own at.
    let parts = was_so (λ (db : Database). HavePartIds l db.trees) a d upto_d (held l own (still_of (schema_of l) a d upto_d at)) in
    let at_b : b.now.schema ≡ schema_of l = still_of (schema_of l) a b upto_b at in record {
      meta = c.in_ok-ids_rise.ensures.ids clean_b 0 [] by_rowid (means_at META_IDS.now 0 rowid_alone by_rowid (schema_of l) a.now.schema at (meta_ids_mean l));
      holders = was_so (λ (db : Database). HaveIds (db.trees 1)) a b upto_b (c.in_ok-ids_rise-2.ensures.ids clean_d 1 [] by_rowid
          (means_at HOLDER_IDS.now 1 rowid_alone by_rowid (schema_of l) b.now.schema at_b (holder_ids_mean l)));
      guarantees = parts.guarantees;
      codes = parts.codes;
      movements = parts.movements;
      lines = parts.lines;
    }) (c.scan_tables.ensures.ids clean)
