use Rattle.std.proofs.Common.{[], refl, true}
use Rattle.sqlite.specs.Held.{state}
use Rattle.td_schema.specs.Layouts.{schema_of}
use Rattle.typed_sql.proofs.VisitedTyped.{visited_rows}
use Rattle.typed_sql.specs.Visited.{is_whole}
use Rattle.td_store_rows.proofs.GuaranteeMeanings.{all_columns, by_serial, kept_all_means}
use Rattle.td_store_rows.proofs.KeptStatements.{placed}
use Rattle.td_store_rows.proofs.StoreReads.{plain_there}
use Rattle.td_store_rows.specs.Columns.{kept_typing}
use Rattle.td_store_rows.specs.KeptTable.{kept_row_of}
use Rattle.td_store_rows.specs.StoreReads.{KeepsUse}
use Rattle.td_store_rows.specs.Places.{by_place}
use Rattle.td_store_rows.specs.declared.guarantees.texts.TheConstants.{KEPT_ALL}
use Rattle.td_store_rows.proofs.guarantees.visiting.visit_kept.Goals as goal

pub visit-requires-clause-plain : goal.visit-requires-clause-plain
visit-requires-clause-plain g c clean =
    plain_there KeepsUse KEPT_ALL.now (λ l keeps. (kept_all_means l keeps).plain) (state g.S.Store c.args.conn.now) (c.requires.tables clean)

pub returns-clause-visited : goal.returns-clause-visited
returns-clause-visited g c clean l keeps has typed =
    visited_rows (kept_typing l) (schema_of l) g.V.Visitor.sees kept_row_of KEPT_ALL.now all_columns by_serial by_place (kept_all_means l keeps) (λ r. refl)
    (λ a b is other. placed l (λ _. true) [] a b (is, refl) (other, refl))
    (state g.S.Store c.args.conn.now) typed (is_whole c.visit.result) (c.args.visitor.now, c.args.beside.now) (c.visit.new.visitor, c.visit.new.beside)
    has (c.visit.ensures.visited clean)
