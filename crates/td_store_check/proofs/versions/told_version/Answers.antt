use Rattle.std.proofs.Common.{subst, ◌≡◌}
use Rattle.sqlite.specs.Held.{state}
use Rattle.sqlite.specs.State.{State}
use Rattle.td_schema.specs.Layouts.{schema_of}
use Rattle.td_store_check.specs.Opened.{AreTold, TellsByOffice}
use Rattle.td_store_check.proofs.Begins.{store_begins}
use Rattle.td_store_check.proofs.Judged.{version_told}
use Rattle.td_store_check.proofs.versions.told_version.Goals as goal

pub read_office-requires-clause-first : goal.read_office-requires-clause-first
read_office-requires-clause-first g c clean =
    let a : State = state g.S.Store c.args.conn.now in
    let has : a.now.schema ≡ schema_of c.in-Store.layout = subst (AreTold a.now.schema) c.in-Store.is c.in_ok-layout.ensures in
    store_begins c.in-Store.layout a.now.schema has

pub returns-in_ok-read_office-in-Store-clause-told : goal.returns-in_ok-read_office-in-Store-clause-told
returns-in_ok-read_office-in-Store-clause-told g c clean =
    let a : State = state g.S.Store c.args.conn.now in
    let has : a.now.schema ≡ schema_of c.in-Store.layout = subst (AreTold a.now.schema) c.in-Store.is c.in_ok-layout.ensures in
    version_told a.now c.in-Store.layout has c.in_ok-read_office-in-Store.field-0 (c.in_ok-read_office-in-Store.ensures.found clean)
    c.version_by.result (subst (λ v. TellsByOffice v c.in_ok-read_office-in-Store.field-0 c.version_by.result) c.version_in.ensures c.version_by.ensures)
