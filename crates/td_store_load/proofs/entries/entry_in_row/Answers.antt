use Rattle.std.proofs.Common.{◌≡◌, List, map, subst, sym}
use Rattle.sqlite.specs.Held.{state}
use Rattle.td_guarantee.specs.Codes.{AreAscending}
use Rattle.td_guarantee.specs.declared.guarantee.Guarantee.{Guarantee}
use Rattle.td_store_rows.specs.declared.codes.stored.StoredCode.{StoredCode}
use Rattle.td_store_rows.specs.KeptTable.{kept_row_of}
use Rattle.td_store_load.specs.Loaded.{IsOfTables, code_of}
use Rattle.td_store_load.specs.Needed.{entry_from}
use Rattle.td_store_load.proofs.Found.{whole_entry}
use Rattle.td_store_load.proofs.entries.entry_in_row.Goals as goal

pub returns-clause-entry : goal.returns-clause-entry
returns-clause-entry g c clean =
    subst (λ (x : Guarantee). IsOfTables (λ t. entry_from t (kept_row_of c.args.row.now)) (state g.S.Store c.args.tx.now.conn.now)
    (record x { codes = c.in_ok-guarantee-2.field-0 }, c.args.row.now.used)) (sym c.in_ok-guarantee.ensures)
    (whole_entry (state g.S.Store c.args.tx.now.conn.now) c.args.row.now c.in_ok-codes.codes.items c.in_ok-guarantee-2.field-0
    (c.in_ok-codes.ensures.order clean)
    (subst (λ (rows : List StoredCode). AreAscending (map code_of rows) → c.in_ok-guarantee-2.field-0 ≡ map code_of rows) c.deref.ensures.value c.in_ok-guarantee-2.ensures.gathered))
