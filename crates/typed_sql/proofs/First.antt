-- What the first row is that a SELECT shows, and what a query for it leaves, inside a transaction.
use Rattle.std.proofs.Common.{◌⊎◌, List, None, Ok, Err, Option, Some, [], ap, refl, inl, inr, subst, sym, ℕ, ◌++◌, ◌∙◌, ◌∷◌, ◌≡◌}
use Rattle.std.proofs.lemmas.Bool.{false≢true}
use Rattle.std.specs.Prelude.{IsTrue, slice_get, false, true}
use Rattle.sqlite.specs.declared.error.Error.{Error}
use Rattle.sqlite.specs.declared.error.Error.TheVariants.{QueryReturnedNoRows}
use Rattle.sqlite_schema.specs.declared.command.Command.{Command}
use Rattle.sqlite_schema.specs.declared.command.Command.TheVariants.{Rows, Select}
use Rattle.sqlite_schema.specs.declared.command.Returning.{Returning}
use Rattle.sqlite_trees.specs.declared.error.StoreError.{StoreError}
use Rattle.sqlite_trees.specs.declared.error.StoreError.TheVariants.{Broken, Corrupt, Full, Io, OutOfMemory, Unstorable}
use Rattle.sqlite_value.specs.Order.{Row}
use Rattle.sqlite.specs.Clock.{timed}
use Rattle.sqlite.specs.Effect.{Database, RefusesToRead}
use Rattle.sqlite.specs.Given.{IsPlain}
use Rattle.sqlite.specs.Listing.{understood}
use Rattle.sqlite.specs.State.{Begins, FailsToQuery, FailsToShow, HasCleanDisk, IsNoStatement, IsNotRun, IsUnchanged, KeepsCommit, QueriesRow, QueriesRowInside, Shown, State, Survives, store_error}
use Rattle.sqlite.proofs.Callers.{EndsIn, begins_shown}
use Rattle.typed_sql.proofs.Answering.{bare, failed_keeps, late_keeps, reads_only, selected_as, shown_inside, shown_keeps, unchanged_keeps}
use Rattle.typed_sql.specs.Meanings.{command_in}
use Rattle.typed_sql.specs.Reading.{OnlyReads, Selects, StaysInside}
use Rattle.typed_sql.specs.Visited.{SelectsFirst}

module _ (text : List ℕ) (values : Row) (old new : State) where
  -- rows that begin an answer come first among those that the text asks for
  pub begun_first : (first : List Row) → Begins text values old first → IsUnchanged old new → SelectsFirst text values old first
  begun_first first begins same s tree tests shows order has means =
      let whole = begins_shown text values old new first begins same (λ c db it from.
      let is : command_in (understood s text) ≡ c.command =
      sym (ap (λ s. command_in (understood s text)) (has same.0.was_open)) ∙ ap command_in it.is in
      subst (λ k. EndsIn k db (timed values c.formats it.now)) (sym means.command ∙ is) tt) in
      (whole.0, selected_as text values old new (first ++ whole.0) whole.1 s tree tests shows order has means)

  -- and so does the first of all rows that are shown
  shown_first : (row : Row) (rows : List Row) → Shown text values old new rows → slice_get rows 0 ≡ Some row
      → SelectsFirst text values old (row ∷ [])
  shown_first row [] shown first = absurd cc
  shown_first row (r ∷ rows) shown first =
      let same : r ≡ row = cc in
      let rest : Shown text values old new (row ∷ rows) = rw same at shown in
      λ s tree tests shows order has means. (rows, selected_as text values old new (row ∷ rows) rest s tree tests shows order has means)

  -- a row that was shown
  module _ (row : Row) where
    pub row_first : QueriesRow text values old new (Ok row) → SelectsFirst text values old (row ∷ [])
    unfolding QueriesRow
    row_first (inl h) = begun_first (row ∷ []) h.0 h.1
    row_first (inr h) = shown_first row h.0 h.1 h.2

    pub row_reads : QueriesRow text values old new (Ok row) → OnlyReads text old new
    unfolding QueriesRow
    row_reads (inl h) = λ s has plain. h.1
    row_reads (inr h) = reads_only text values old new h.0 h.1

    row_inside : IsTrue old.in_transaction → QueriesRow text values old new (Ok row) → IsTrue new.in_transaction
    unfolding QueriesRow
    row_inside inside (inl h) = h.1.0.mode ∙ inside
    row_inside inside (inr h) = shown_inside text values old new h.0 inside h.1

    row_keeps : IsTrue old.in_transaction → QueriesRow text values old new (Ok row) → KeepsCommit old new
    unfolding QueriesRow
    row_keeps inside (inl h) = unchanged_keeps old new h.1
    row_keeps inside (inr h) = shown_keeps text values old new h.0 inside h.1

  -- that there is no row is no failure of the store, nor of the text
  no_cause : (cause : StoreError) → QueryReturnedNoRows ≡ store_error cause → ⊥
  no_cause OutOfMemory is = cc
  no_cause Io is = cc
  no_cause Corrupt is = cc
  no_cause Full is = cc
  no_cause Broken is = cc
  no_cause Unstorable is = cc

  no_fault : IsNoStatement old text values QueryReturnedNoRows → ⊥
  no_fault (inl h) = let is = h.2 in cc
  no_fault (inr h) = elim h.2 [
    | inl more ↦ let is = more.1 in cc
    | inr given ↦ elim given [ inl few ↦ let is = few.1 in cc | inr timeless ↦ let is = timeless.1 in cc ]
  ]

  -- nor of reading
  no_refusal : (limit : Option ℕ) (command : Command) (db : Database) (params : Row)
      → RefusesToRead limit command db params QueryReturnedNoRows → ⊥
  no_refusal limit (Select q names) db params (inl h) = let is = h.0 in cc
  no_refusal limit (Select q names) db params (inr (inl h)) = let is = h.0 in cc
  no_refusal limit (Select q names) db params (inr (inr h)) = let is = h.0 in cc
  no_refusal limit (Rows shown width names) db params h = let is = h.0 in cc
  no_refusal limit _ db params h = cc

  not_run : IsNotRun old new text values QueryReturnedNoRows → ⊥
  unfolding IsNotRun
  not_run (inl h) = no_fault h.0
  not_run (inr failed) = no_cause failed.0 failed.1

  -- so a query that failed without a row is of a text that isn't plain, and left all as it was
  failed_plain : FailsToQuery text values old new QueryReturnedNoRows
      → IsUnchanged old new × (¬ IsPlain (understood old.now.schema text))
  unfolding FailsToQuery
  failed_plain (inl h) = absurd (not_run h)
  failed_plain (inr h) = by_returning h.0.returning refl h.2
    where
      by_returning : (o : Option Returning) → h.0.returning ≡ o
          → FailsToShow old new text h.0 (timed values h.0.formats h.1.now) QueryReturnedNoRows o
          → IsUnchanged old new × (¬ IsPlain (understood old.now.schema text))
      by_returning None is shown = absurd (no_refusal _ _ _ _ shown.2)
      by_returning (Some what) is (inl refused) =
          (refused.1, λ plain. let none = bare (understood old.now.schema text) plain h.0 h.1.is in cc)
      by_returning (Some what) is (inr failed) = absurd (no_cause failed.0 failed.1)

  abbrev pub FindsNone : Type 0
  FindsNone = QueriesRowInside text values old new (Err QueryReturnedNoRows)

  -- no row was shown
  none_shown : FindsNone → (IsUnchanged old new × (¬ IsPlain (understood old.now.schema text))) ⊎ Shown text values old new []
  unfolding QueriesRow
  none_shown (inl (inl failed)) = inl (failed_plain failed)
  none_shown (inl (inr none)) = inr none.1
  none_shown (inr late) = absurd (let is = late.4 in cc)

  pub none_first : FindsNone → Selects text values old []
  none_first h s tree tests shows order has means = elim (none_shown h) [
    | inl other ↦ absurd (other.1 (rw (has other.0.0.was_open) means.plain))
    | inr shown ↦ selected_as text values old new [] shown s tree tests shows order has means
  ]

  pub none_reads : FindsNone → OnlyReads text old new
  none_reads h s has plain = elim (none_shown h) [
    | inl other ↦ other.0
    | inr shown ↦ reads_only text values old new [] shown s has plain
  ]

  pub row_within : (row : Row) → Survives old new (λ _. ⊥) → (HasCleanDisk new → QueriesRow text values old new (Ok row)) → StaysInside true old new
  row_within row survives h = record {
    inside = λ clean well was. row_inside row was (h clean);
    kept = λ clean was. row_keeps row was (h clean);
    survives = survives;
  }

  pub none_within : Survives old new (λ _. ⊥) → (HasCleanDisk new → FindsNone) → StaysInside true old new
  none_within survives h = record {
    inside = λ clean well was. elim (none_shown (h clean)) [
      | inl other ↦ other.0.0.mode ∙ was
      | inr shown ↦ shown_inside text values old new [] was shown
    ];
    kept = λ clean was. elim (none_shown (h clean)) [
      | inl other ↦ unchanged_keeps old new other.0
      | inr shown ↦ shown_keeps text values old new [] was shown
    ];
    survives = survives;
  }

  failed_inside : (e : Error) → IsTrue old.in_transaction → QueriesRowInside text values old new (Err e) → KeepsCommit old new
  unfolding QueriesRow
  failed_inside e inside (inl (inl failed)) = failed_keeps text values old new e failed
  failed_inside e inside (inl (inr none)) = shown_keeps text values old new [] inside none.1
  failed_inside e inside (inr late) = late_keeps text values old new e late

  pub failed_within : (e : Error) → Survives old new (λ _. ⊥) → (HasCleanDisk new → QueriesRowInside text values old new (Err e)) → StaysInside false old new
  failed_within e survives h = record {
    inside = λ clean well was. absurd (false≢true well);
    kept = λ clean was. failed_inside e was (h clean);
    survives = survives;
  }
