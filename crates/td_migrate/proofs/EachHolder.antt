-- The guarantees of version 1 put into the table of version 2, and the lines of version 2 into that of version 3, of one holder after another.
use Rattle.std.proofs.Common.{◌≡◌, ◌∙◌, ◌+◌, ◌<◌, ℕ, true, List, [], map, refl, sym, ap, subst, arith}
use Rattle.std.specs.Prelude.{◌==◌, ◌&&◌, filter, nat_le, nat_lt, unwrap_or}
use Rattle.std.specs.List.{AllByRecursion}
use Rattle.std.proofs.lemmas.Bool.Decides.{nat_tests}
use Rattle.sqlite_trees.specs.Tree.{Trees}
use Rattle.sqlite_trees.proofs.ListLemmas.{all_of}
use Rattle.sqlite.specs.Effect.{Database}
use Rattle.sqlite.specs.State.{State}
use Rattle.td_guarantee.specs.declared.guarantee.Guarantee.{Guarantee}
use Rattle.td_table_model.specs.Gathering.{part, place}
use Rattle.td_table_model.specs.Tables.{Keyed, version_with_amounts, with_amount}
use Rattle.td_table_model.proofs.Numbered.{map_same}
use Rattle.td_schema.specs.Layouts.{grown, schema_of, version_of}
use Rattle.td_schema.specs.declared.layout.Layout.{Layout}
use Rattle.td_schema.specs.declared.layout.Layout.TheVariants.{Made1, Grown2}
use Rattle.typed_sql.proofs.Ordered.{both_pass}
use Rattle.typed_sql.specs.Reading.{HasOnlyRead}
use Rattle.typed_sql.specs.Typed.{AreTyped, row_of, typed_rows}
use Rattle.typed_sql.specs.Writing.{AreOthersKept}
use Rattle.td_store_rows.specs.Columns.{guarantee_typing, holder_typing, kept_typing, line_typing, movement_typing}
use Rattle.td_store_rows.specs.Places.{is_within}
use Rattle.td_store_rows.specs.StoreReads.{IsOfVersion}
use Rattle.td_store_audit.specs.InFile.{OnlyReadIn}
use Rattle.td_store_audit.specs.Totals.{AreTotals}
use Rattle.td_store_audit.specs.declared.totals.Totals.{Totals}
use Rattle.td_migrate.proofs.Passing.{all_passing}
use Rattle.td_store_audit_rows.specs.NextHolder.{HasLeastAbove, is_above}
use Rattle.td_store_audit_rows.specs.declared.holders.RawHolder.{RawHolder}
use Rattle.td_migrate.specs.Filled.{FillsOf, FillsWithin, HasSums, IsFirst, with_its_use, with_sum}
use Rattle.td_migrate.specs.InUse.{AreInUse, in_use}
use Rattle.td_migrate.specs.LinesMoved.{AreLinesTyped}
use Rattle.td_migrate.specs.Put.{ArePut, KeepTheRules}
use Rattle.td_migrate.proofs.Becoming.{beside_new}
use Rattle.td_migrate.proofs.Older.{lines_beside, of_first}
use Rattle.td_migrate.proofs.Placed.{guarantees_placed, lines_below, lines_placed, owners_above, owners_upto, rows_in}
use Rattle.td_migrate.proofs.Putting.{typed_still}
use Rattle.td_migrate.proofs.Split.{IsPlacedBy, is_upto, upto_all, upto_none}
use Rattle.td_migrate.proofs.Used.{all_still}

-- a holder's guarantees, each with what is in use on the holder's guarantee with its serial
module _ (H end : ℕ) (trees : Trees) (rows : List (Keyed Guarantee)) where
  abbrev sums : ℕ → ℕ
  sums n = in_use Grown2 H n trees

  own : (g : Keyed Guarantee) → is_within H 0 end g ≡ true → with_sum sums g ≡ with_its_use trees g
  own g is =
      let passes = (both_pass (g.holder == H) (nat_le 0 g.serial && nat_lt g.serial end) is).0 in
      let same : H ≡ g.holder = grind (arith, nat_tests, passes) in
      ap (λ h. with_amount (in_use Grown2 h g.serial trees) (record g { row = record g.row { codes = [] } })) same

  same_rows : map (with_sum sums) (filter (is_within H 0 end) rows) ≡ map (with_its_use trees) (filter (is_within H 0 end) rows)
  same_rows =
      map_same (with_sum sums) (with_its_use trees) (filter (is_within H 0 end) rows)
      (all_passing (λ g. with_sum sums g ≡ with_its_use trees g) (is_within H 0 end) rows (all_of (λ g. is_within H 0 end g ≡ true → with_sum sums g ≡ with_its_use trees g) own rows))

-- a holder's, by what was added up
module _ (raw : RawHolder) (end : ℕ) (last : end ≡ unwrap_or raw.grn_count 0 + 1) (totals : Totals) (a m d : State) (reads : OnlyReadIn (IsOfVersion version_with_amounts) a m)
    (found : AreInUse raw.holder (unwrap_or raw.mrn_count 0 + 1) a totals) (fills : (sums : ℕ → ℕ) → AreTotals sums totals → FillsWithin sums raw.holder end m d) where
  abbrev IsFilled : Layout → Type 0
  IsFilled l =
      a.now.schema ≡ schema_of (grown l) → AreTyped (kept_typing (grown l)) a.now.trees → HasSums raw l a.now.trees
      → ArePut (kept_typing (grown l)) (schema_of (grown l))
      (map (with_its_use a.now.trees) (filter (is_within raw.holder 0 (unwrap_or raw.grn_count 0 + 1)) (typed_rows (guarantee_typing l) a.now.trees))) a.now d.now

  filled_first : IsFilled Made1
  filled_first has typed asked =
      let H = raw.holder in
      let sums : ℕ → ℕ = λ n. in_use Grown2 H n a.now.trees in
      let read : HasOnlyRead a m = reads Grown2 refl (λ _. has) in
      let are : AreTotals sums totals = found Grown2 refl (λ _. has) asked.lines in
      let put : ArePut (kept_typing Grown2) (schema_of Grown2) (map (with_sum sums) (filter (is_within H 0 end) (typed_rows (guarantee_typing Made1) m.now.trees))) m.now d.now =
      fills sums are Made1 refl (ap (λ (x : Database). x.schema) read.now_is ∙ has) (subst (λ (x : Database). AreTyped (kept_typing Grown2) x.trees) (sym read.now_is) typed)
      (subst (λ (x : Database). AreTyped (guarantee_typing Made1) x.trees) (sym read.now_is) asked.guarantees) in
      let rows : List (Keyed Guarantee) = typed_rows (guarantee_typing Made1) a.now.trees in
      let before : ArePut (kept_typing Grown2) (schema_of Grown2) (map (with_sum sums) (filter (is_within H 0 end) rows)) a.now d.now =
      subst (λ (x : Database). ArePut (kept_typing Grown2) (schema_of Grown2) (map (with_sum sums) (filter (is_within H 0 end) (typed_rows (guarantee_typing Made1) x.trees))) x d.now) read.now_is put in
      subst (λ k. ArePut (kept_typing Grown2) (schema_of Grown2) k a.now d.now)
      (same_rows H end a.now.trees rows ∙ ap (λ n. map (with_its_use a.now.trees) (filter (is_within H 0 n) rows)) last) before

  pub filled_of : FillsOf raw a d
  filled_of l at = of_first IsFilled filled_first l at

-- what the next holder is asked by is so
pub first_asked : (number : ℕ) (raw : RawHolder) (l : Layout) → IsFirst l → (x y : Trees) → AreOthersKept (schema_of (grown l)) (kept_typing (grown l)).table.tree x y
    → KeepTheRules l x → HasLeastAbove number (rows_in x) raw
    → HasSums raw l y × AllByRecursion (IsPlacedBy number raw.holder (unwrap_or raw.grn_count 0 + 1)) (typed_rows (guarantee_typing l) x)
first_asked number raw l at x y =
    of_first (λ l. AreOthersKept (schema_of (grown l)) (kept_typing (grown l)).table.tree x y → KeepTheRules l x → HasLeastAbove number (rows_in x) raw
    → HasSums raw l y × AllByRecursion (IsPlacedBy number raw.holder (unwrap_or raw.grn_count 0 + 1)) (typed_rows (guarantee_typing l) x)) asked l at
  where
    asked : AreOthersKept (schema_of Grown2) (kept_typing Grown2).table.tree x y → KeepTheRules Made1 x → HasLeastAbove number (rows_in x) raw
        → HasSums raw Made1 y × AllByRecursion (IsPlacedBy number raw.holder (unwrap_or raw.grn_count 0 + 1)) (typed_rows (guarantee_typing Made1) x)
    asked others keep next =
        let beside = beside_new x y others in
        let sums : HasSums raw Made1 y = record {
          guarantees = typed_still (guarantee_typing Made1) x y beside.old keep.typed.guarantees;
          lines = record {
            movements = typed_still movement_typing x y beside.rest.movements keep.typed.movements;
            lines = typed_still (line_typing Grown2) x y beside.rest.lines keep.typed.lines;
            below = subst (λ k. AllByRecursion (λ line. place line < unwrap_or raw.mrn_count 0 + 1) (part raw.holder (map (row_of (line_typing Grown2)) k))) (sym beside.rest.lines)
                (lines_below Made1 x keep number raw next);
          };
        } in
        (sums, guarantees_placed Made1 x keep number raw next)

pub first_still : (l : Layout) → IsFirst l → (x y : Trees) → AreOthersKept (schema_of (grown l)) (kept_typing (grown l)).table.tree x y → (rows : List (Keyed Guarantee))
    → map (with_its_use y) rows ≡ map (with_its_use x) rows
first_still l at x y =
    of_first (λ l. AreOthersKept (schema_of (grown l)) (kept_typing (grown l)).table.tree x y → (rows : List (Keyed Guarantee)) → map (with_its_use y) rows ≡ map (with_its_use x) rows)
    (λ others rows. let beside = beside_new x y others in all_still x y beside.rest.movements beside.rest.lines rows) l at

pub first_none : (l : Layout) (x : Trees) → KeepTheRules l x → filter (is_upto 0) (typed_rows (guarantee_typing l) x) ≡ []
first_none l x keep =
    let stored = keep.rules.stored in
    upto_none (typed_rows (guarantee_typing l) x) (owners_above (typed_rows holder_typing x) stored.numbers (typed_rows (guarantee_typing l) x) stored.guarantees_owned)

pub first_all : (number : ℕ) (l : Layout) (x : Trees) → KeepTheRules l x → filter (is_above number) (rows_in x) ≡ []
    → filter (is_upto number) (typed_rows (guarantee_typing l) x) ≡ typed_rows (guarantee_typing l) x
first_all number l x keep none =
    upto_all number (typed_rows (guarantee_typing l) x) (owners_upto x number none (typed_rows (guarantee_typing l) x) keep.rules.stored.guarantees_owned)

-- and so for the lines
pub lines_asked : (number end : ℕ) (raw : RawHolder) → end ≡ unwrap_or raw.mrn_count 0 + 1 → (l : Layout) → version_of l ≡ version_with_amounts → (x y : Trees)
    → AreOthersKept (schema_of (grown l)) (line_typing (grown l)).table.tree x y → KeepTheRules l x → HasLeastAbove number (rows_in x) raw
    → AreLinesTyped l y × AllByRecursion (IsPlacedBy number raw.holder end) (typed_rows (line_typing l) x)
lines_asked number end raw last l is x y others keep next = (
  typed_still (line_typing l) x y (lines_beside l is x y others).source keep.typed.lines,
  subst (λ n. AllByRecursion (IsPlacedBy number raw.holder n) (typed_rows (line_typing l) x)) (sym last) (lines_placed l x keep number raw next),
)

pub lines_none : (l : Layout) (x : Trees) → KeepTheRules l x → filter (is_upto 0) (typed_rows (line_typing l) x) ≡ []
lines_none l x keep =
    let stored = keep.rules.stored in
    upto_none (typed_rows (line_typing l) x) (owners_above (typed_rows holder_typing x) stored.numbers (typed_rows (line_typing l) x) stored.lines_owned)

pub lines_all : (number : ℕ) (l : Layout) (x : Trees) → KeepTheRules l x → filter (is_above number) (rows_in x) ≡ []
    → filter (is_upto number) (typed_rows (line_typing l) x) ≡ typed_rows (line_typing l) x
lines_all number l x keep none =
    upto_all number (typed_rows (line_typing l) x) (owners_upto x number none (typed_rows (line_typing l) x) keep.rules.stored.lines_owned)
