use Rattle.sqlite.specs.Held.{state}
use Rattle.typed_sql.proofs.Leaving.{any_ok, stays}
use Rattle.typed_sql.proofs.OnlyRead.{one_read}
use Rattle.td_store_rows.proofs.StoreReads.{reads_well}
use Rattle.td_schema.specs.Layouts.{schema_of}
use Rattle.td_store_audit.specs.declared.texts.TheConstants.{OFFICE}
use Rattle.td_store_audit.proofs.OfficeRow.{office_means, told_country}
use Rattle.td_store_audit.proofs.office.office_country.Goals as goal

pub returns-clause-told : goal.returns-clause-told
returns-clause-told g c clean =
    told_country (state g.S.Store c.args.tx.now.conn.now) c.in_ok-rows.rows.items (c.in_ok-rows.ensures.selected clean) c.only_country.result
    (rw c.deref.ensures.value at c.only_country.ensures)

pub returns-clause-reads : goal.returns-clause-reads
returns-clause-reads g c =
    reads_well (record {
      still = λ clean well l newest. one_read _ _ (stays (schema_of l) OFFICE.now (office_means l).plain _ _ (c.in_ok-rows.ensures.still clean));
      within = c.in_ok-rows.ensures.within;
    })

pub returns-clause-was_open : goal.returns-clause-was_open
returns-clause-was_open g c clean =
    any_ok c.only_country.result (λ l has. (stays (schema_of l) OFFICE.now (office_means l).plain _ _ (c.in_ok-rows.ensures.still clean) has).0.was_open)
