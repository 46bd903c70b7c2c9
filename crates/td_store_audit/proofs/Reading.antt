-- What was told of a store's file is so before the calls that told it, since they only read.
use Rattle.std.proofs.Common.{◌≤◌, ℕ, Err, Ok, OnOk, Result, refl, subst, sym}
use Rattle.std.specs.Prelude.{Bool, is_ok, true}
use Rattle.sqlite_trees.specs.Tree.{Trees}
use Rattle.sqlite.specs.Effect.{Database}
use Rattle.sqlite.specs.State.{State, HasCleanDisk}
use Rattle.typed_sql.proofs.OnlyRead.{none_read, read_more, stays_nothing, still_has}
use Rattle.td_table_model.specs.Tables.{version_with_amounts}
use Rattle.td_schema.specs.declared.layout.Layout.{Layout}
use Rattle.td_store_rows.specs.StoreReads.{ReadsIn, ReadsKept, ReadsStore, ReadsVersion}
use Rattle.td_store_audit.specs.InFile.{IsSoWhere, OnlyReadIn}

-- what is so of the file afterwards was so before
pub so_before : (At : Layout → Type 0) (Q P : Layout → Trees → Type 0) (a b : State) → OnlyReadIn At a b → IsSoWhere At Q P b → IsSoWhere At Q P a
so_before At Q P a b read so layout own has where_so =
    let one = read layout own has in
    subst (λ (d : Database). P layout d.trees) one.now_is
    (so layout own (still_has a b has one) (subst (λ (d : Database). Q layout d.trees) (sym one.now_is) where_so))

-- no call, and calls after others
pub none_read_in : (At : Layout → Type 0) (a : State) → OnlyReadIn At a a
none_read_in At a layout own = none_read a

pub more_read : (At : Layout → Type 0) (a b d : State) → OnlyReadIn At a b → OnlyReadIn At b d → OnlyReadIn At a d
more_read At a b d first second layout own = read_more a b d (first layout own) (second layout own)

pub reads_none : {At : Layout → Type 0} {w : Bool} {a : State} → ReadsIn At w a a
reads_none {At} {w} {a} = record { still = λ clean well layout own. none_read a; within = stays_nothing }

-- what only reads in a file of any layout
pub any_read : (At : Layout → Type 0) {a b : State} → HasCleanDisk b → ReadsStore true a b → OnlyReadIn At a b
any_read At clean reads layout own = reads.still clean refl layout tt

-- what reads in a file of any layout does so in one of these
pub anywhere : {At : Layout → Type 0} {w : Bool} {a b : State} → ReadsStore w a b → ReadsIn At w a b
anywhere reads = record { still = λ clean well layout own. reads.still clean well layout tt; within = reads.within }

-- so does what reads in a file that keeps amounts, where the version is one that does
pub kept_read : (version : ℕ) → version_with_amounts ≤ version → {w : Bool} {a b : State} → ReadsKept w a b → ReadsVersion version w a b
kept_read version late reads = record {
  still = λ clean well layout own. reads.still clean well layout (subst (λ v. version_with_amounts ≤ v) (sym own) late);
  within = reads.within;
}

-- what one clause says of a call, said clause by clause
pub still_ok : {At : Layout → Type 0} {T E : Type 0} {a b : State} (r : Result T E) → ReadsIn At (is_ok r) a b → HasCleanDisk b
    → OnOk r (OnlyReadIn At a b)
still_ok (Ok x) reads clean = reads.still clean refl
still_ok (Err e) reads clean = tt
