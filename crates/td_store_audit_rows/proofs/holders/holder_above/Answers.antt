use Rattle.std.proofs.Common.{subst}
use Rattle.sqlite.specs.Held.{state}
use Rattle.sqlite.specs.State.{State}
use Rattle.td_schema.specs.Layouts.{schema_of}
use Rattle.typed_sql.proofs.Leaving.{stays}
use Rattle.typed_sql.proofs.OnlyRead.{one_read}
use Rattle.typed_sql.specs.Visited.{FetchesFirst}
use Rattle.td_store_audit_rows.specs.Holders.{fields_from, fields_of_raw}
use Rattle.td_store_audit_rows.specs.NextHolder.{IsNextHolder}
use Rattle.td_store_audit_rows.specs.declared.texts.TheConstants.{HOLDERS_ABOVE}
use Rattle.td_store_audit_rows.proofs.Meanings.{holders_above_mean}
use Rattle.td_store_audit_rows.proofs.NextHolder.{next_fetched}
use Rattle.td_store_audit_rows.proofs.holders.holder_above.Goals as goal

pub returns-in_default-clause-found : goal.returns-in_default-clause-found
returns-in_default-clause-found g c clean =
    let a : State = state g.S.Store c.args.tx.now.conn.now in
    subst (IsNextHolder c.args.number a) c.in_default.is
    (next_fetched c.args.number a c.in_ok-raw.field-0
    (subst (λ v. FetchesFirst fields_of_raw fields_from HOLDERS_ABOVE.now v a c.in_ok-raw.field-0) c.above_key.ensures (c.in_ok-raw.ensures.found clean)))

pub returns-in_default-clause-reads : goal.returns-in_default-clause-reads
returns-in_default-clause-reads g c = record {
  still = λ clean well l any. one_read _ _ (stays (schema_of l) HOLDERS_ABOVE.now (holders_above_mean l).plain _ _ (c.in_ok-raw.ensures.still clean));
  within = c.in_ok-raw.ensures.within;
}

pub returns-clause-found : goal.returns-clause-found
returns-clause-found g c clean =
    let a : State = state g.S.Store c.args.tx.now.conn.now in
    subst (IsNextHolder c.args.number a) c.in-Some.is
    (next_fetched c.args.number a c.in_ok-raw.field-0
    (subst (λ v. FetchesFirst fields_of_raw fields_from HOLDERS_ABOVE.now v a c.in_ok-raw.field-0) c.above_key.ensures (c.in_ok-raw.ensures.found clean)))

pub returns-clause-reads : goal.returns-clause-reads
returns-clause-reads g c = record {
  still = λ clean well l any. one_read _ _ (stays (schema_of l) HOLDERS_ABOVE.now (holders_above_mean l).plain _ _ (c.in_ok-raw.ensures.still clean));
  within = c.in_ok-raw.ensures.within;
}
