-- What one statement on one table wrote, in the words of the store.
use Rattle.sqlite.specs.Rows.{Inserts, Task, Written}
use Rattle.sqlite_rules.specs.Action.{Writes, works}
use Rattle.sqlite.proofs.Callers.{command_of, one_step, runs_as, statement_of}
use Rattle.sqlite.specs.Does.{AtPlace, Concludes, Does, OnRows, Tally}
use Rattle.sqlite.specs.Effect.{Answers, Database, IsDatabase, value_rows}
use Rattle.sqlite.specs.Given.{IsPlain}
use Rattle.sqlite.specs.Listing.{understood}
use Rattle.sqlite.specs.State.{Executes, State, mode_of}
use Rattle.sqlite.specs.declared.run.Mode.{Mode}
use Rattle.sqlite_resolve.specs.declared.compiled.Compiled.{Compiled}
use Rattle.sqlite_resolve.specs.declared.error.CompileError.{CompileError}
use Rattle.sqlite_rules.specs.Calls.{ids_of}
use Rattle.sqlite_rules.specs.Cast.{cast_row}
use Rattle.sqlite_rules.specs.Edit.{Applies, Edit, edit_of, numbered, taken_by, with_rowid}
use Rattle.sqlite_rules.specs.declared.error.Rowids.{Rowids}
use Rattle.sqlite_rules.specs.declared.error.Rowids.TheVariants.{Chosen, Given}
use Rattle.sqlite_schema.specs.declared.command.Command.{Command}
use Rattle.sqlite_schema.specs.declared.command.Command.TheVariants.{Delete, Insert, Update}
use Rattle.sqlite_schema.specs.declared.command.Source.TheVariants.{Values}
use Rattle.sqlite_schema.specs.declared.program.Program.{Program}
use Rattle.sqlite_schema.specs.declared.schema.Keys.TheVariants.{Enforced}
use Rattle.sqlite_schema.specs.declared.schema.Schema.{Schema}
use Rattle.sqlite_schema.specs.declared.schema.Table.{Table}
use Rattle.sqlite_sql.specs.Term.{Term}
use Rattle.sqlite_trees.specs.Tree.{Trees, put_row}
use Rattle.sqlite_value.specs.Order.{Row}
use Rattle.std.proofs.Common.{Err, List, None, Ok, Option, Result, [], ap, append-nil, drop, inl, inr, length, refl, subst, suc, sym, ℕ, ◌/◌, ◌∙◌, ◌∷◌, ◌≡◌}
use Rattle.std.proofs.lemmas.List.{length-map}
use Rattle.std.specs.Prelude.{unwrap_or, ◌⊎◌}
use Rattle.typed_sql.specs.Meanings.{HasTable, command_in, plain_table}

-- the command of a text, in the words of the kit
pub command_is : (r : Result Compiled CompileError) → command_of r ≡ command_in r
command_is (Ok c) = refl
command_is (Err e) = refl

-- a part that gave a value did not stop on the way
pub went : {B E R : Type 0} {b : B} {Stops : E → Type 0} → ((stop : E) × Stops stop × (Ok b ≡ Err stop)) ⊎ R → R
went (inl stopped) = absurd (let e = stopped.2 in cc)
went (inr on) = on

pub same_value : {B E : Type 0} {a b : B} → ◌≡◌ {A = Result B E} (Ok a) (Ok b) → a ≡ b
same_value e = cc

length_numbered : (rowids : Rowids) (before rows : List Row) → length (numbered rowids before rows) ≡ length rows
length_numbered rowids before [] = refl
length_numbered rowids before (r ∷ rows) =
    ap suc (length_numbered rowids (put_row (with_rowid rowids before r) before) rows)

module _ (schema : Schema) (t : Table) (params : Row) (limit : Option ℕ) where
  abbrev task : Task
  task = record { limit = limit; keys = Enforced; schema = schema; table = plain_table t; params = params }

  abbrev edit : Trees → Row → Edit
  edit db row = edit_of db (plain_table t) [] Chosen 0 (row ∷ [])

  -- the one row of VALUES
  inserted : (terms : List Term) (width : ℕ) (row : Row) (db : Trees) (w : Written)
      → value_rows params width (length terms / width) terms ≡ row ∷ []
      → works schema Enforced 0 t.tree [] (edit db row).news ≡ [] → Inserts task (Values terms width) db (Ok w)
      → Applies schema Enforced db (edit db row) w.trees
  inserted terms width row db w one none h =
      let given = went h in
      let written = went (went given.2).2 in
      let counted = went written.2 in
      let rows : given.0 ≡ row ∷ [] = given.1.1
      ∙ ap (λ p. value_rows p width (length terms / width) terms) (append-nil params) ∙ one in
      let trees : w.trees ≡ written.0 = ap (λ (it : Written). it.trees) (same_value counted.2)
      ∙ same_value counted.1 in
      let writes : Writes schema Enforced db (edit db row) (Ok written.0) =
      subst (λ rs. Writes schema Enforced db (edit_of db (plain_table t) [] Chosen 0 rs) (Ok written.0)) rows
      written.1 in
      subst (λ n. Applies schema Enforced db (edit db row) n) (sym trees)
      (one_step schema Enforced db written.0 (edit db row) none writes)

  concluded : (mode : Mode) (w : Written) (tally : Tally) (now : Database)
      → Concludes task mode None w (Ok (tally, now)) → now ≡ record { schema = schema; trees = w.trees }
  concluded mode w tally now h = ap (λ (p : Tally × Database). p.1) (same_value (went (went h).2).2)

module _ (text : List ℕ) (params : Row) (old new : State) (schema : Schema) (has : old.now.schema ≡ schema)
    (place : ℕ) (t : Table) (table : HasTable schema place t)
    (plain : IsPlain (understood schema text)) where
  abbrev job : Task
  job = task schema t params old.step_limit

  -- what the command did on the rows of its table
  abbrev OnTable : Command → Tally × Database → Type 0
  OnTable command out = OnRows job (mode_of old) None command old.now.trees (Ok out)

  abbrev DoesHere : Schema → Command → Tally × Database → Type 0
  DoesHere s command out =
      Does old.step_limit (mode_of old) params (record old.now { schema = s })
      (statement_of text (understood schema text)) None command (Ok out)

  abbrev AtTable : Command → Tally × Database → Option Table → Type 0
  AtTable command out o =
      AtPlace (λ table. OnRows
      (record { limit = old.step_limit; keys = Enforced; schema = schema; table = table; params = params })
      (mode_of old) None command old.now.trees) o (Ok out)

  module _ (terms : List Term) (width : ℕ) (row : Row) (is : command_of (understood schema text)
      ≡ Insert place (Values terms width))
      (one : value_rows params width (length terms / width) terms ≡ row ∷ []) where
    pub one_inserted : (count : ℕ) → Executes text params old new (Ok count)
        → (new.now.schema ≡ schema)
        × Applies schema Enforced old.now.trees
        (edit_of old.now.trees (plain_table t) [] Chosen 0 (row ∷ [])) new.now.trees
        × IsDatabase new.now
    one_inserted count h =
        let command = Insert place (Values terms width) in
        let w = runs_as text params old new schema has command is plain count h in
        let does : DoesHere schema command (w.tally, new.now) =
        subst (λ s. DoesHere s command (w.tally, new.now)) has w.changed in
        let on : OnTable command (w.tally, new.now) =
        subst (AtTable command (w.tally, new.now)) table.there does in
        let done = went on in
        let now = concluded schema t params old.step_limit (mode_of old) done.0 w.tally new.now done.2 in
        let applied =
        inserted schema t params old.step_limit terms width row old.now.trees done.0 one
        (table.free [] (edit_of old.now.trees (plain_table t) [] Chosen 0 (row ∷ [])).news) done.1 in (
          ap (λ (d : Database). d.schema) now,
          subst
              (λ (d : Database). Applies schema Enforced old.now.trees
              (edit_of old.now.trees (plain_table t) [] Chosen 0 (row ∷ [])) d.trees) (sym now) applied,
          w.sound,
        )

-- what an UPDATE or a DELETE did: the rows that its query showed, and the edit by their rowids
pub record IsChanged (schema : Schema) (t : Table) (q : Program) (params : Row) (count : ℕ) (edit : List Row
    → Edit) (old new : Database) : Type 0 where
  pub rows : List Row
  pub answer : Answers (record { schema = schema; trees = old.trees }) q params rows
  pub counted : count ≡ length rows
  pub schema_is : new.schema ≡ schema
  pub applied : Applies schema Enforced old.trees (edit rows) new.trees
  pub sound : IsDatabase new

module _ (text : List ℕ) (params : Row) (old new : State) (schema : Schema) (has : old.now.schema ≡ schema)
    (place : ℕ) (t : Table) (table : HasTable schema place t)
    (plain : IsPlain (understood schema text)) (q : Program) where
  module _ (is : command_of (understood schema text) ≡ Update place q) where
    abbrev set_anew : List Row → Edit
    set_anew rows = edit_of old.now.trees (plain_table t) (ids_of rows) Given 1 rows

    pub one_updated : (count : ℕ) → Executes text params old new (Ok count)
        → IsChanged schema t q params count set_anew old.now new.now
    one_updated count h =
        let w = runs_as text params old new schema has (Update place q) is plain count h in
        let does : DoesHere text params old new schema has place t table plain schema (Update place q)
        (w.tally, new.now) =
        subst (λ s. DoesHere text params old new schema has place t table plain s (Update place q)
        (w.tally, new.now)) has w.changed in
        let on : OnTable text params old new schema has place t table plain (Update place q) (w.tally, new.now) =
        subst (AtTable text params old new schema has place t table plain (Update place q) (w.tally, new.now))
        table.there does in
        let done = went on in
        let ended = same_value (went (went done.2).2).2 in
        let now : new.now ≡ record { schema = schema; trees = done.0.trees } =
        ap (λ (p : Tally × Database). p.1) ended in
        let rows = went done.1 in
        let next = went rows.2 in
        let written : done.0 ≡ record { trees = next.0; rows = (set_anew rows.0).news; last = None } =
        same_value next.2 in
        let applied : Applies schema Enforced old.now.trees (set_anew rows.0) next.0 =
        one_step schema Enforced old.now.trees next.0 (set_anew rows.0) (table.free _ _) next.1 in
        record {
          rows = rows.0;
          answer = rows.1;
          counted = w.counted ∙ ap (λ (p : Tally × Database). unwrap_or p.0.rows 0) ended
              ∙ ap (λ (it : Written). length it.rows) written ∙ length_numbered Given _ _
              ∙ length-map rows.0 (λ s. cast_row (plain_table t) (drop 1 s));
          schema_is = ap (λ (d : Database). d.schema) now;
          applied = subst (λ (d : Trees). Applies schema Enforced old.now.trees (set_anew rows.0) d)
              (sym (ap (λ (d : Database). d.trees) now ∙ ap (λ (it : Written). it.trees) written)) applied;
          sound = w.sound;
        }

  module _ (is : command_of (understood schema text) ≡ Delete place q) where
    abbrev taken_out : List Row → Edit
    taken_out rows = edit_of old.now.trees (plain_table t) (ids_of rows) Given 0 []

    pub one_deleted : (count : ℕ) → Executes text params old new (Ok count)
        → IsChanged schema t q params count taken_out old.now new.now
    one_deleted count h =
        let w = runs_as text params old new schema has (Delete place q) is plain count h in
        let does : DoesHere text params old new schema has place t table plain schema (Delete place q)
        (w.tally, new.now) =
        subst (λ s. DoesHere text params old new schema has place t table plain s (Delete place q)
        (w.tally, new.now)) has w.changed in
        let on : OnTable text params old new schema has place t table plain (Delete place q) (w.tally, new.now) =
        subst (AtTable text params old new schema has place t table plain (Delete place q) (w.tally, new.now))
        table.there does in
        let done = went on in
        let ended = same_value (went (went done.2).2).2 in
        let now : new.now ≡ record { schema = schema; trees = done.0.trees } =
        ap (λ (p : Tally × Database). p.1) ended in
        let rows = went done.1 in
        let next = went rows.2 in
        let written : done.0
        ≡ record { trees = next.0; rows = taken_by old.now.trees (taken_out rows.0); last = None } =
        same_value next.2 in
        let applied : Applies schema Enforced old.now.trees (taken_out rows.0) next.0 =
        one_step schema Enforced old.now.trees next.0 (taken_out rows.0)
        (table.free (taken_by old.now.trees (taken_out rows.0)) []) next.1 in
        record {
          rows = rows.0;
          answer = rows.1;
          counted = w.counted ∙ ap (λ (p : Tally × Database). unwrap_or p.0.rows 0) ended
              ∙ ap (λ (it : Written). length it.rows) written ∙ length-map (ids_of rows.0) _ ∙ length-map rows.0 _;
          schema_is = ap (λ (d : Database). d.schema) now;
          applied = subst (λ (d : Trees). Applies schema Enforced old.now.trees (taken_out rows.0) d)
              (sym (ap (λ (d : Database). d.trees) now ∙ ap (λ (it : Written). it.trees) written)) applied;
          sound = w.sound;
        }
