-- What a store's schema keeps of its tables, of a database that obeys it, and of an open connection.
use Rattle.std.proofs.Common.{subst}
use Rattle.sqlite_trees.specs.Tree.{Trees}
use Rattle.sqlite_schema.specs.Rules.{Obeys}
use Rattle.sqlite.specs.State.{IsLive, State}
use Rattle.td_schema.specs.Layouts.{schema_of}
use Rattle.td_schema.specs.declared.layout.Layout.{Layout}
use Rattle.td_store_audit_rows.specs.Ids.{HaveAllIds}
use Rattle.td_store_audit_rows.specs.Laws.{AreKept}
use Rattle.td_store_audit.specs.Keeping.{KeepsTables, SchemaKeeps, SchemaKeepsTables}
use Rattle.td_store_audit.proofs.HoldersKept.{holders_kept}
use Rattle.td_store_audit.proofs.Tables.{amounts_kept, codes_kept, guarantees_kept, lines_kept, movements_kept}

-- what trees keep that obey the schema of a layout
pub schema_keeps : (P : Layout → Trees → Type 0) → ((layout : Layout) (trees : Trees) → Obeys (schema_of layout) trees → HaveAllIds layout trees → P layout trees) → SchemaKeeps P
schema_keeps P tells layout db sound is ids = tells layout db.trees (subst (λ s. Obeys s db.trees) is sound.obeys) ids

all_kept : (layout : Layout) (trees : Trees) → Obeys (schema_of layout) trees → HaveAllIds layout trees → AreKept layout trees
all_kept layout trees obeys ids =
    let holders = holders_kept layout trees ids.holders obeys in
    record {
      ids = ids;
      numbers = holders.0;
      holders = holders.1;
      guarantees = guarantees_kept layout trees obeys ids;
      amounts = amounts_kept layout trees obeys ids;
      codes = codes_kept layout trees obeys ids;
      movements = movements_kept layout trees obeys ids;
      lines = lines_kept layout trees obeys ids;
    }

pub keeps_tables : SchemaKeepsTables
keeps_tables = schema_keeps AreKept all_kept

pub live_keeps : (state : State) → IsLive state → KeepsTables state
live_keeps state live layout is_open has ids = keeps_tables layout state.now (live is_open).0 (has is_open) ids
