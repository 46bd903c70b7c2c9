-- What one text makes.
use Rattle.std.proofs.Common.{◌≡◌, ℕ, List, [], ◌∷◌, ◌++◌, Ok, Err, None, false, Result, refl, sym, ap, subst, ◌∙◌}
use Rattle.std.specs.List.{AllByRecursion}
use Rattle.sqlite_catalog.specs.Change.{created, next_tree, KeepsRows}
use Rattle.sqlite_resolve.specs.declared.compiled.Compiled.{Compiled}
use Rattle.sqlite_resolve.specs.declared.error.CompileError.{CompileError}
use Rattle.sqlite_schema.specs.declared.command.Command.TheVariants.{CreateTable}
use Rattle.sqlite_schema.specs.declared.schema.Schema.{Schema}
use Rattle.sqlite_schema.specs.declared.schema.Table.{Table}
use Rattle.sqlite_trees.specs.Tree.{Trees}
use Rattle.sqlite.specs.Does.{Tally, lacks_sequence}
use Rattle.sqlite.specs.Effect.{Database}
use Rattle.sqlite.specs.Listing.{understood}
use Rattle.sqlite.specs.State.{State, Writes, ExecutesInside}
use Rattle.sqlite.proofs.Callers.{statement_of, runs_as}
use Rattle.typed_sql.proofs.Steps.{command_is, same_value, went}
use Rattle.typed_sql.specs.Writing.{HasSchema}
use Rattle.td_schema.specs.Making.{own_text, MakesOne, IsMade}
use Rattle.td_schema.specs.Tables.{IsEmptyOf}

-- the own text, in the words of the kit
text_is : (text : List ℕ) (r : Result Compiled CompileError) → statement_of text r ≡ own_text text r
text_is text (Ok c) = refl
text_is text (Err e) = refl

-- the rows of the tables that were there are none still, and the new one has none
no_rows : (tables : List Table) (new : Table) (old after : Trees) → AllByRecursion (λ t. old t.tree ≡ []) tables → KeepsRows tables old after → after new.tree ≡ []
    → AllByRecursion (λ (t : Table). after t.tree ≡ []) (tables ++ new ∷ [])
no_rows [] new old after empty keeps none = (none, tt)
no_rows (t ∷ ts) new old after empty keeps none = (keeps.0 ∙ empty.0, no_rows ts new old after empty.1 keeps.1 none)

-- a text that makes one table makes it without rows
pub makes : (old new : State) (text : List ℕ) (count : ℕ) → ExecutesInside 0 text [] old new (Ok count) → (s : Schema) (t : Table) → MakesOne s text t → HasSchema old s
    → IsMade s t old.now new.now
makes old new text count h s t one has =
    let was : old.now.schema ≡ s = has h.1.was_open in
    let command = command_is (understood s text) ∙ one.command in
    let whole = text_is text (understood s text) ∙ one.whole in
    let w = subst (λ t. Writes old new None CreateTable t [] count) whole (runs_as text [] old new s was CreateTable command one.plain count h.0) in
    let all = went w.changed in
    let first = went all.1 in
    let made = first.1 in
    let both : Ok made.table ≡ Ok t = sym made.defined ∙ one.table in
    let same : made.table ≡ t = cc in
    let schema : first.0.schema ≡ created s t = made.is ∙ ap (λ s. created s made.table) was ∙ ap (created s) same in
    let plain : lacks_sequence first.0.schema ≡ false = ap lacks_sequence schema ∙ one.uncounted in
    let now : new.now ≡ first.0 = ap (λ (p : Tally × Database). p.1) (same_value all.2) ∙ same_value (rw plain at first.2) in
    let empty : first.0.trees (next_tree s) ≡ [] = subst (λ s. first.0.trees (next_tree s) ≡ []) was made.empty in
    let others : KeepsRows s.tables old.now.trees first.0.trees = subst (λ (s : Schema). KeepsRows s.tables old.now.trees first.0.trees) was made.others in
    subst (IsMade s t old.now) (sym now) (record { schema = schema; empty = empty; others = others })

-- where no table had a row, none has one
pub made_empty : (s : Schema) (t : Table) (old new : Database) → IsEmptyOf s old → IsMade s t old new → IsEmptyOf (created s t) new
made_empty s t old new was made = record {
  schema = made.schema;
  empty = no_rows s.tables (record t { tree = next_tree s }) old.trees new.trees was.empty made.others made.empty;
}
