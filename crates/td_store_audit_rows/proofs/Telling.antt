-- What a statement over a whole table tells, in a store's file of a layout.
use Rattle.std.proofs.Common.{◌≡◌, Bool, List, [], ◌∷◌, subst, sym}
use Rattle.std.specs.Prelude.{◌↔◌}
use Rattle.sqlite_sql.specs.Term.{Term}
use Rattle.sqlite.specs.Effect.{Database}
use Rattle.sqlite_schema.specs.declared.schema.Schema.{Schema}
use Rattle.sqlite_trees.specs.Tree.{rowid}
use Rattle.sqlite_trees.proofs.ListLemmas.{all_weaker}
use Rattle.sqlite_value.specs.declared.keys.Key.{Key}
use Rattle.sqlite_value.specs.Order.{Row}
use Rattle.typed_sql.specs.Meanings.{MeansSelect}
use Rattle.typed_sql.specs.Reading.{shown_by}
use Rattle.typed_sql.specs.Typed.{Typing}
use Rattle.td_store_audit_rows.specs.Scans.{IsReadRow, Scans, TellsRead}
use Rattle.td_store_audit_rows.proofs.Chained.{means_at}

-- a scan of the columns tells of each row whether it is of its kinds and in range
module _ {R : Type 0} (ty : Typing R) (AreFields : R → Type 0) (AreRead : Row → Type 0) (text : List _) (shows : List Term)
    (order : List (Term × Key)) (s : Schema) (means : MeansSelect s text ty.table.tree [] shows order)
    (showing : (r : Row) → shown_by shows [] r ≡ rowid r ∷ ty.columns r) (read : (r : Row) → AreRead (rowid r ∷ ty.columns r) ↔ IsReadRow ty AreFields r)
    (db : Database) (has : db.schema ≡ s) where
  pub tells : (all : Bool) → Scans AreRead text db all → TellsRead ty AreFields db.trees all
  tells all h =
      let told = h ty.table.tree shows order (means_at text ty.table.tree shows order s db.schema has means) in (
        λ is. all_weaker (λ r. AreRead (shown_by shows [] r)) (IsReadRow ty AreFields) (λ r it. (read r).0 (subst AreRead (showing r) it))
            (db.trees ty.table.tree) (told.0 is),
        λ each. told.1 (all_weaker (IsReadRow ty AreFields) (λ r. AreRead (shown_by shows [] r))
            (λ r it. subst AreRead (sym (showing r)) ((read r).1 it)) (db.trees ty.table.tree) each),
      )
