-- Calls that read one after another in a store's file.
use Rattle.std.proofs.Common.{◌≡◌, ◌∙◌, arith, refl, subst, sym, Result, List, ℕ}
use Rattle.std.specs.Prelude.{Bool, IsTrue, OnOk, is_ok, true}
use Rattle.sqlite_trees.specs.declared.store.Store.{Ghosts}
use Rattle.sqlite.specs.Given.{IsPlain}
use Rattle.sqlite.specs.Listing.{understood}
use Rattle.sqlite.specs.Held.{Held, state}
use Rattle.sqlite.specs.State.{State, HasCleanDisk, IsUnchanged}
use Rattle.td_schema.specs.declared.layout.Layout.{Layout}
use Rattle.td_schema.specs.Layouts.{HasMoreLines, IsNewest, schema_of}
use Rattle.typed_sql.proofs.Leaving.{reads_by}
use Rattle.typed_sql.proofs.OnlyRead.{none_read, read_more, stays_on, stays_well}
use Rattle.typed_sql.specs.Reading.{OnlyReads, StaysInside}
use Rattle.td_store_rows.specs.StoreReads.{HasTablesOf, KeepsUse, OnlyReadNewest, ReadsIn, ReadsNewest, ReadsStore}
use Rattle.td_store_rows.specs.Visited.{IsOfLayout}

-- a statement that doesn't write, whatever came of it
pub reads_in : {T E : Type 0} (P : Layout → Type 0) (text : List ℕ) → ((l : Layout) → P l → IsPlain (understood (schema_of l) text))
    → (old new : State) (r : Result T E) → (HasCleanDisk new → OnOk r (OnlyReads text old new)) → StaysInside (is_ok r) old new
    → ReadsIn P (is_ok r) old new
reads_in P text plain old new r still within = record {
  still = λ clean well l is. (reads_by (schema_of l) text (plain l is) old new r still within).still clean well;
  within = within;
}

-- a text that doesn't write in any file of these layouts doesn't in one
pub plain_there : (P : Layout → Type 0) (text : List ℕ) → ((l : Layout) → P l → IsPlain (understood (schema_of l) text)) → (s : State)
    → IsOfLayout P s → IsPlain (understood s.now.schema text)
plain_there P text plain s it = subst (λ schema. IsPlain (understood schema text)) (sym it.2) (plain it.0 it.1)

-- what reads in files of some layouts reads in those of fewer
pub reads_less : {P Q : Layout → Type 0} {w : Bool} {a b : State} → ((l : Layout) → Q l → P l) → ReadsIn P w a b → ReadsIn Q w a b
reads_less fewer reads = record { still = λ clean well l is. reads.still clean well l (fewer l is); within = reads.within }

-- in those of the newest version what reads in a file of any layout
pub anywhere : {w : Bool} {a b : State} → ReadsStore w a b → ReadsNewest w a b
anywhere reads = reads_less (λ l newest. tt) reads

-- a layout of the newest version keeps the amounts in use
pub newest_keeps : (l : Layout) → IsNewest l → KeepsUse l
newest_keeps l newest = omega (arith, newest)

-- and takes more lines
pub newest_more_lines : (l : Layout) → IsNewest l → HasMoreLines l
newest_more_lines l newest = omega (arith, newest)

-- calls after calls that were well
pub reads_on : {P : Layout → Type 0} {w : Bool} {a b d : State} → ReadsIn P true a b → ReadsIn P w b d → ReadsIn P w a d
reads_on {P} {w} {a} {b} {d} first second = record {
  still = λ clean well l is.
      read_more a b d (first.still (omega (arith, clean, second.within.survives.clean)) refl l is) (second.still clean well l is);
  within = stays_on first.within second.within;
}

-- calls that were well, whatever is answered after them
pub reads_well : {P : Layout → Type 0} {w : Bool} {a b : State} → ReadsIn P true a b → ReadsIn P w a b
reads_well first = record { still = λ clean well. first.still clean refl; within = stays_well first.within }

-- of the newest version: no call, and calls after others
pub none_newest : (a : State) → OnlyReadNewest a a
none_newest a l newest = none_read a

pub newest_more : (a b d : State) → OnlyReadNewest a b → OnlyReadNewest b d → OnlyReadNewest a d
newest_more a b d first second l newest = read_more a b d (first l newest) (second l newest)

-- What was read in a transaction, in a file of one of these layouts, was read of a connection that was open, where that is seen after
-- it; and its database is as it was.
module _ {S : Type 0} (g : Ghosts S) (P : Layout → Type 0) (old : Held S) (read seen : State) where
  pub seen_still : (HasCleanDisk (state g old) → HasTablesOf P (state g old)) → ReadsIn P true (state g (record old { in_transaction = true })) read
      → StaysInside true read seen → (HasCleanDisk seen → IsUnchanged read seen) → HasCleanDisk seen
      → IsTrue (state g old).is_open × (seen.now ≡ (state g old).now)
  seen_still tables reads within still clean =
      let clean_read : HasCleanDisk read = omega (arith, clean, within.survives.clean) in
      let same = still clean in
      let there = tables (omega (arith, clean_read, reads.within.survives.clean)) in
      let only = reads.still clean_read refl there.0 there.1 there.2 in
      (only.was_open same.0.was_open, same.0.now_is ∙ only.now_is)
