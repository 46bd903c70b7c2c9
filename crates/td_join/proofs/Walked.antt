-- Calls that looked for the holders of one file in another.
use Rattle.std.proofs.Common.{◌≡◌, ◌∙◌, ◌≤◌, ℕ, true, false, length, Option, Some, None, refl, sym, ap, arith}
use Rattle.std.specs.Prelude.{◌==◌, filter, is_some}
use Rattle.std.specs.Option.{option_to_list}
use Rattle.std.proofs.lemmas.List.Sorted.{IsPermutation-sym}
use Rattle.sqlite.specs.State.{State, HasCleanDisk}
use Rattle.td_model.specs.declared.holder_row.HolderRow.{HolderRow}
use Rattle.td_model.specs.Account.{Account}
use Rattle.td_model.specs.Content.{Content, account_in, rows_of}
use Rattle.td_table_model.specs.Tables.{Tables}
use Rattle.td_table_model.proofs.Looked.{account_is, find_first, first, short_permutation}
use Rattle.typed_sql.proofs.OnlyRead.{none_read, stays_nothing}
use Rattle.td_store_rows.specs.HolderTable.{IsTheHolder}
use Rattle.td_store_rows.specs.StoreReads.{OnlyReadNewest, ReadsNewest}
use Rattle.td_store_rows.specs.StoreTables.{HoldsContent, tables_in}
use Rattle.td_store_rows.proofs.StoreReads.{reads_on}
use Rattle.td_extract.specs.Extracted.{IsNextOf}
use Rattle.td_join.proofs.Held.{held_after}
use Rattle.td_join.specs.Joining.{IsFirstIn}
use Rattle.td_join.proofs.Apart.{AreApartUpTo, apart_at_first, apart_at_last, apart_further, first_of_both, none_there, row_there}

-- at most one is found of a number
one_at_most : (o : Option HolderRow) → length (option_to_list o) ≤ 1
one_at_most None = omega arith
one_at_most (Some row) = omega arith

first_is : (o : Option HolderRow) → first (option_to_list o) ≡ o
first_is None = refl
first_is (Some row) = refl

-- what is found of a number, after calls that read, is what the content has of it
found_there : (a b : State) (H : ℕ) (found : Option HolderRow) → OnlyReadNewest a b → IsTheHolder H b found → (d : Content) → HoldsContent d a
    → (account_in H d).holder ≡ found
found_there a b H found read is d holds =
    let held : HoldsContent d b = held_after d a b read holds in
    let t : Tables = tables_in held.trees.layout b.now.trees in
    let those : filter (λ (h : HolderRow). h.holder == H) t.holders ≡ option_to_list found =
    sym (short_permutation (option_to_list found) (filter (λ (h : HolderRow). h.holder == H) t.holders)
    (IsPermutation-sym _ _ (is held.trees.layout held.schema held.trees.typed.holders)) (one_at_most found)) in
    ap (λ (x : Account). x.holder) (account_is t d held.trees.sound held.trees.tables H)
    ∙ find_first (λ (h : HolderRow). h.holder == H) t.holders ∙ ap first those ∙ first_is found

stands_there : (a b : State) (H : ℕ) (found : Option HolderRow) → OnlyReadNewest a b → IsTheHolder H b found → (d : Content) → HoldsContent d a
    → is_some (rows_of H d) ≡ is_some found
stands_there a b H found read is d holds = sym (row_there (rows_of H d)) ∙ ap is_some (found_there a b H found read is d holds)

-- The holders of one file up to a number were looked for in another, and none stands there.
pub record HasMetNone (number : ℕ) (a b o p : State) : Type 0 where
  pub reads : ReadsNewest true a b
  pub looks : ReadsNewest true o p
  pub none : HasCleanDisk b → HasCleanDisk p → (c d : Content) → HoldsContent c a → HoldsContent d o → AreApartUpTo number c d

-- no call yet
nothing_read : (a : State) → ReadsNewest true a a
nothing_read a = record { still = λ clean well l newest. none_read a; within = stays_nothing }

pub met_nobody : (a o : State) → HasMetNone 0 a a o o
met_nobody a o = record {
  reads = nothing_read a;
  looks = nothing_read o;
  none = λ clean clean_o c d holds others. apart_at_first c d holds.trees.sound;
}

module _ (number last : ℕ) (a b m o p q : State) (before : HasMetNone number a b o p) (looked : ReadsNewest true b m) where
  -- the next holder of the first file is looked for in the second
  module _ (row : HolderRow) (next : HasCleanDisk m → IsNextOf number last b (Some row)) (asked : ReadsNewest true p q)
      (found : Option HolderRow) (is : HasCleanDisk q → IsTheHolder row.holder p found) where
    next_of : HasCleanDisk m → IsNextOf number last a (Some row)
    next_of clean c holds =
        let clean_b : HasCleanDisk b = omega (arith, clean, looked.within.survives.clean) in
        next clean c (held_after c a b (before.reads.still clean_b refl) holds)

    there : HasCleanDisk q → (d : Content) → HoldsContent d o → is_some (rows_of row.holder d) ≡ is_some found
    there clean d holds =
        let clean_p : HasCleanDisk p = omega (arith, clean, asked.within.survives.clean) in
        stands_there o p row.holder found (before.looks.still clean_p refl) (is clean) d holds

    apart_before : HasCleanDisk m → HasCleanDisk q → (c d : Content) → HoldsContent c a → HoldsContent d o → AreApartUpTo number c d
    apart_before clean clean_q =
        before.none (omega (arith, clean, looked.within.survives.clean)) (omega (arith, clean_q, asked.within.survives.clean))

    pub met_none_more : is_some found ≡ false → HasMetNone row.holder a m o q
    met_none_more missed = record {
      reads = reads_on before.reads looked;
      looks = reads_on before.looks asked;
      none = λ clean clean_q c d holds others.
          apart_further c d number last row (apart_before clean clean_q c d holds others) (next_of clean c holds)
          (none_there (rows_of row.holder d) (there clean_q d others ∙ missed));
    }

    pub met_one : is_some found ≡ true → HasCleanDisk m → HasCleanDisk q → IsFirstIn a o (Some row.holder)
    met_one stands clean clean_q c d holds others =
        first_of_both c d number last row (apart_before clean clean_q c d holds others) (next_of clean c holds)
        (there clean_q d others ∙ stands)

-- and no holder is left
pub met_all : (number : ℕ) (a b m o p : State) → HasMetNone number a b o p → ReadsNewest true b m → (HasCleanDisk m → IsNextOf number 999999 b None)
    → HasCleanDisk m → HasCleanDisk p → IsFirstIn a o None
met_all number a b m o p before looked none clean clean_p c d holds others =
    let clean_b : HasCleanDisk b = omega (arith, clean, looked.within.survives.clean) in
    apart_at_last c d holds.trees.sound number (before.none clean_b clean_p c d holds others)
    (none clean c (held_after c a b (before.reads.still clean_b refl) holds))
