-- S3 is kept exactly where each row of guarantees is read, and each holder's are in their places.
use Rattle.std.proofs.Common.{◌≡◌, ◌∙◌, ◌+◌, ◌-◌, ◌<◌, ◌≤◌, ◌^◌, ℕ, Bool, true, false, not, List, [], ◌++◌, Option, subst, sym, arith, None, Some, ap₂, map, nat_lt, refl, subst₂}
use Rattle.std.proofs.lemmas.Bool.{false≢true}
use Rattle.std.specs.Prelude.{◌↔◌, ◌==◌, IsTrue, is_some}
use Rattle.std.specs.List.{AllByRecursion}
use Rattle.sqlite_trees.specs.Tree.{Trees}
use Rattle.sqlite_trees.proofs.ListLemmas.{all-filter, all-map, all_both, all_from_map, all_weaker}
use Rattle.sqlite.specs.State.{State}
use Rattle.td_model.specs.declared.holder_row.HolderRow.{HolderRow}
use Rattle.td_table_model.specs.declared.rule.Rule.TheVariants.{S1, S3}
use Rattle.td_table_model.specs.Gathering.{guarantees_by, owner, part, place}
use Rattle.td_table_model.specs.Rules.{HasGuarantees, IsGuaranteeInRange}
use Rattle.td_table_model.specs.Tables.{Keyed, Tables}
use Rattle.td_table_model.proofs.Rebuilt.{all_in_order}
use Rattle.std.specs.Option.{option_map}
use Rattle.typed_sql.specs.Reading.{OnlyRead}
use Rattle.typed_sql.specs.Typed.{AreTyped, ComesFirst, IsTypedRow, row_of, typed_rows}
use Rattle.td_schema.specs.Layouts.{schema_of}
use Rattle.td_schema.specs.declared.layout.Layout.{Layout}
use Rattle.td_store_rows.specs.GuaranteeTable.{AreBySerial, IsFirstGuarantee, guarantee_row_of}
use Rattle.td_store_rows.specs.Places.{by_place, is_after, is_within}
use Rattle.td_store_rows.specs.declared.guarantees.stored.StoredGuarantee.{StoredGuarantee}
use Rattle.td_store_rows.specs.Columns.{holder_typing, guarantee_typing}
use Rattle.td_store_rows.specs.StoreTables.{tables_in}
use Rattle.td_store_audit_rows.specs.InPlace.{AreGuaranteesInPlace, AreNextGuarantees, IsGuaranteeInPlace}
use Rattle.td_store_audit_rows.specs.Fields.{AreGuaranteeFields}
use Rattle.td_store_audit_rows.specs.Found.{FoundHoldersTell, HasGrns, grn_pair, raw_grn_pair}
use Rattle.td_store_audit_rows.specs.Untyped.{AllRows, HasGrnCount, KeepsUntyped}
use Rattle.td_store_audit_rows.specs.Scans.{IsReadRow}
use Rattle.td_store_audit_rows.specs.Told.{GuaranteesAreRead}
use Rattle.td_store_audit_rows.specs.declared.holders.RawHolder.{RawHolder}
use Rattle.td_store_audit.specs.Auditable.{IsAuditable}
use Rattle.td_base.specs.References.{greatest_grn_serial}
use Rattle.td_guarantee.specs.declared.guarantee.Guarantee.{Guarantee}
use Rattle.td_store_audit.specs.InFile.{AreTypedApart, HasGuaranteesInPlace, IsSoWhere, TellsWhere}
use Rattle.td_store_rows.specs.Ranges.{rows_below, rows_between}
use Rattle.td_store_audit.specs.Ranges.{guarantees_below}
use Rattle.td_store_rows.proofs.RowRanges.{all_below, between_below, joined, mine_rise, none_below, within_apart, within_is}
use Rattle.td_store_audit.proofs.RowRanges.{none_is_behind, none_left, own_range, some_is_behind, upto}
use Rattle.td_store_audit.proofs.Reading.{so_before}
use Rattle.td_table_model.proofs.Orders.{rises-filter}
use Rattle.td_store_audit.proofs.HoldersTold.{holders_tell, of_pairs, owners}
use Rattle.td_store_rows.specs.StoreReads.{IsOfVersion}

abbrev AreAllRead : Layout → Trees → Type 0
AreAllRead layout trees = AllRows (guarantee_typing layout) (IsReadRow (guarantee_typing layout) AreGuaranteeFields) trees

module _ (law : FoundHoldersTell) (layout : Layout) (trees : Trees) (country : List ℕ) (holders : List RawHolder) (known : IsAuditable layout trees country holders) where
  abbrev t : Tables
  t = tables_in layout trees

  -- where S3 is kept each row is read
  pub kept_read : GuaranteesAreRead → KeepsUntyped layout trees S1 → KeepsUntyped layout trees S3 → AreAllRead layout trees
  kept_read read first keeps =
      let keyed = known.kept.guarantees keeps.0.1 in
      read layout trees (owners law layout trees country holders known first) keyed.owned keyed.apart keeps

  module _ (read : AreAllRead layout trees) where
    cells : AllRows (guarantee_typing layout) (IsTypedRow (guarantee_typing layout)) trees
    cells = all_weaker (IsReadRow (guarantee_typing layout) AreGuaranteeFields) (IsTypedRow (guarantee_typing layout)) (λ r is. is.0) (trees (guarantee_typing layout).table.tree) read

    fields : (H : ℕ) → AllByRecursion AreGuaranteeFields (guarantees_by H t)
    fields H =
        all_in_order place AreGuaranteeFields (part H t.guarantees)
        (all-filter AreGuaranteeFields (λ r. owner r == H) t.guarantees
        (all-map AreGuaranteeFields (row_of (guarantee_typing layout)) (trees (guarantee_typing layout).table.tree)
        (all_weaker (IsReadRow (guarantee_typing layout) AreGuaranteeFields) (λ r. AreGuaranteeFields (row_of (guarantee_typing layout) r)) (λ r is. is.1) (trees (guarantee_typing layout).table.tree) read)))

    -- a holder's count and guarantees keep S3 exactly where they are in their places
    abbrev IsInPlace : ℕ × ℕ → Type 0
    IsInPlace p = AreGuaranteesInPlace t.country p.1 (guarantees_by p.0 t)

    placed : (row : HolderRow) → HasGuarantees t row → IsInPlace (grn_pair row)
    placed row has = record {
      serials = has.serials;
      count = has.count ∙ omega arith;
      most = has.most;
      each = all_weaker (IsGuaranteeInRange t.country) (IsGuaranteeInPlace t.country)
          (λ g is. record { grn = is.grn; reference = is.reference.0 }) (guarantees_by row.holder t) has.columns;
    }

    ranged : (row : HolderRow) → IsInPlace (grn_pair row) → HasGuarantees t row
    ranged row is = record {
      serials = is.serials;
      count = is.count ∙ omega arith;
      most = is.most;
      columns = all_both (IsGuaranteeInPlace t.country) AreGuaranteeFields (IsGuaranteeInRange t.country)
          (λ g place_is field. record {
            grn = place_is.grn;
            reference = (place_is.reference, field.reference);
            cover = field.cover;
            ends = field.ends;
          }) (guarantees_by row.holder t) is.each (fields row.holder);
    }

    -- the counts of rows that keep S3 are in range
    counted : KeepsUntyped layout trees S3 → AllByRecursion HasGrns holders
    counted keeps =
        let told = holders_tell law layout trees country holders known in
        told.grn_kinds.0
        (all_both HasGrnCount (λ r. HasGuarantees t (row_of holder_typing r)) (λ r. HasGrnCount r × ((row_of holder_typing r).grn_count < 2 ^ 32))
        (λ r number has. (number, omega (arith, has.most))) (trees holder_typing.table.tree) keeps.0.0
        (all_from_map (HasGuarantees t) (row_of holder_typing) (trees holder_typing.table.tree) keeps.1))

    of_country : (h : RawHolder) → HasGrns h → IsInPlace (raw_grn_pair h) → HasGuaranteesInPlace layout country trees h
    of_country h some is =
        (some, subst (λ c. AreGuaranteesInPlace c (raw_grn_pair h).1 (guarantees_by h.holder t)) known.country_is is)

    of_tables : (h : RawHolder) → HasGuaranteesInPlace layout country trees h → IsInPlace (raw_grn_pair h)
    of_tables h is = subst (λ c. AreGuaranteesInPlace c (raw_grn_pair h).1 (guarantees_by h.holder t)) (sym known.country_is) is.1

    pub kept_each : KeepsUntyped layout trees S3 ↔ AllByRecursion (HasGuaranteesInPlace layout country trees) holders
    kept_each =
        let told = holders_tell law layout trees country holders known in (
          λ keeps.
              let some = counted keeps in
              all_both HasGrns (λ h. IsInPlace (raw_grn_pair h)) (HasGuaranteesInPlace layout country trees) of_country holders some
              ((of_pairs grn_pair raw_grn_pair IsInPlace t.holders holders (told.grn_counts some)).0
              (all_weaker (HasGuarantees t) (λ row. IsInPlace (grn_pair row)) placed t.holders keeps.1)),
          λ each.
              let some = all_weaker (HasGuaranteesInPlace layout country trees) HasGrns (λ h is. is.0) holders each in
              let kinds = told.grn_kinds.1 some in (
                (
                  all_weaker (λ r. HasGrnCount r × ((row_of holder_typing r).grn_count < 2 ^ 32)) HasGrnCount (λ r is. is.0)
                      (trees holder_typing.table.tree) kinds,
                  cells,
                ),
                all_weaker (λ row. IsInPlace (grn_pair row)) (HasGuarantees t) ranged t.holders
                    ((of_pairs grn_pair raw_grn_pair IsInPlace t.holders holders (told.grn_counts some)).1
                    (all_weaker (HasGuaranteesInPlace layout country trees) (λ h. IsInPlace (raw_grn_pair h)) of_tables holders each)),
              ),
        )

-- the guarantees of a holder below a serial, and those of a range
abbrev pub AreRowsBelow : ℕ → State → ℕ → ℕ → List (Keyed Guarantee) → Type 0
AreRowsBelow version a H first rows = IsSoWhere (IsOfVersion version) (λ layout. AreTypedApart (guarantee_typing layout)) (λ layout trees. rows ≡ guarantees_below layout trees H first) a

abbrev pub AreRowsOfRange : ℕ → State → ℕ → ℕ → ℕ → List (Keyed Guarantee) → Type 0
AreRowsOfRange version a H first next rows =
    IsSoWhere (IsOfVersion version) (λ layout. AreTypedApart (guarantee_typing layout))
    (λ layout trees. rows ≡ rows_between first next (guarantees_by H (tables_in layout trees))) a

-- none are below the first serial
pub rows_none : (version : ℕ) (a : State) (H : ℕ) → AreRowsBelow version a H 0 []
rows_none version a H layout own has apart =
    sym (none_below 0 0 (guarantees_by H (tables_in layout a.now.trees)) (mine_rise H (tables_in layout a.now.trees).guarantees (apart.apart H)) (omega arith))

-- those that a statement shows of a range are those of the range
pub rows_of_range : (version : ℕ) (a : State) (H first next : ℕ) (found : List StoredGuarantee) → AreBySerial version (is_within H first next) a found
    → AreRowsOfRange version a H first next (map guarantee_row_of found)
rows_of_range version a H first next found order layout own has apart =
    let rows = (tables_in layout a.now.trees).guarantees in
    order layout own has apart.typed (within_apart H rows (apart.apart H) first next) ∙ within_is H rows (apart.apart H) first next

-- and stand behind those below it
pub rows_more : (version : ℕ) (a : State) (H first next : ℕ) → first ≤ next → (before found : List (Keyed Guarantee)) → AreRowsBelow version a H first before
    → AreRowsOfRange version a H first next found → AreRowsBelow version a H next (before ++ found)
rows_more version a H first next up before found those here layout own has apart =
    let mine = guarantees_by H (tables_in layout a.now.trees) in
    ap₂ (λ x y. x ++ y) (those layout own has apart) (here layout own has apart)
    ∙ sym (joined first next 0 mine (mine_rise H (tables_in layout a.now.trees).guarantees (apart.apart H)) up)

-- the guarantees of a range are in their places where all are that come before the end
pub range_tells : (version : ℕ) (country : List ℕ) (a : State) (H end first next : ℕ) → first < next → next ≤ end → (found : List (Keyed Guarantee))
    → AreRowsOfRange version a H first next found → (b : Bool) → b ≡ false → IsTrue b ↔ AreNextGuarantees country (first - 1) (next - 1) found
    → TellsWhere (IsOfVersion version) (λ layout. AreTypedApart (guarantee_typing layout)) (λ layout trees. AreGuaranteesInPlace country (end - 1) (guarantees_below layout trees H end)) a false
range_tells version country a H end first next less within found here b off tells layout own has apart = (
  λ t. absurd (false≢true t),
  λ all.
      let mine = guarantees_by H (tables_in layout a.now.trees) in
      let rise = mine_rise H (tables_in layout a.now.trees).guarantees (apart.apart H) in
      let range = own_range (IsGuaranteeInPlace country) greatest_grn_serial (rows_below end mine)
      (rises-filter place (λ r. nat_lt (place r) end) 0 mine rise) (end - 1) all first next less (omega (arith, less, within)) in
      let same : rows_between first next (rows_below end mine) ≡ found = between_below first next end mine within ∙ sym (here layout own has apart) in
      absurd (false≢true (sym off ∙ tells.1 (subst (AreNextGuarantees country (first - 1) (next - 1)) same range))),
)

-- what was found first is so before calls that only read
pub first_before : (version : ℕ) (a b : State) → ((l : Layout) → IsOfVersion version l → OnlyRead (schema_of l) a b) → (H count : ℕ) (next : Option StoredGuarantee)
    → IsFirstGuarantee version (is_after H count) b next → IsFirstGuarantee version (is_after H count) a next
first_before version a b read H count next first l own has typed =
    so_before (IsOfVersion version) (λ layout. AreTyped (guarantee_typing layout))
    (λ layout trees. ComesFirst (is_after H count) by_place (typed_rows (guarantee_typing layout) trees) (option_map guarantee_row_of next)) a b read
    first l own has typed

-- a holder's are where those below the serial behind the count are, and none stands behind the count
module _ (version : ℕ) (country : List ℕ) (a : State) (raw : RawHolder) (count end : ℕ) (is : raw.grn_count ≡ Some count) (behind : end ≡ count + 1) where
  abbrev TellsBelow : Bool → Type 0
  TellsBelow =
      TellsWhere (IsOfVersion version) (λ layout. AreTypedApart (guarantee_typing layout))
      (λ layout trees. AreGuaranteesInPlace country (end - 1) (guarantees_below layout trees raw.holder end)) a

  abbrev Tells : Bool → Type 0
  Tells = TellsWhere (IsOfVersion version) (λ layout. AreTypedApart (guarantee_typing layout)) (λ layout trees. HasGuaranteesInPlace layout country trees raw) a

  pub not_below : TellsBelow false → Tells false
  not_below told layout own has apart = (
    λ t. absurd (false≢true t),
    λ placed.
        let mine = guarantees_by raw.holder (tables_in layout a.now.trees) in
        let rise = mine_rise raw.holder (tables_in layout a.now.trees).guarantees (apart.apart raw.holder) in
        absurd (false≢true ((told layout own has apart).1
        (upto (IsGuaranteeInPlace country) greatest_grn_serial mine rise count (rw is at placed.1) end (omega (arith, behind))))),
  )

  pub none_further : TellsBelow true → IsFirstGuarantee version (is_after raw.holder count) a None → Tells true
  none_further told first layout own has apart =
      let rows = (tables_in layout a.now.trees).guarantees in
      let mine = guarantees_by raw.holder (tables_in layout a.now.trees) in
      let same : rows_below end mine ≡ mine = rw behind (all_below (count + 1) mine (none_is_behind raw.holder count rows (first layout own has apart.typed))) in
      let last : end - 1 ≡ count = omega (arith, behind) in (
        λ t. rw is (refl, subst₂ (AreGuaranteesInPlace country) last same ((told layout own has apart).0 refl)),
        λ placed. refl,
      )

  pub some_further : (next : StoredGuarantee) → IsFirstGuarantee version (is_after raw.holder count) a (Some next) → Tells false
  some_further next first layout own has apart = (
    λ t. absurd (false≢true t),
    λ placed.
        let rows = (tables_in layout a.now.trees).guarantees in
        let mine = guarantees_by raw.holder (tables_in layout a.now.trees) in
        absurd (some_is_behind raw.holder count rows (guarantee_row_of next) (apart.apart raw.holder) (first layout own has apart.typed)
        (none_left (IsGuaranteeInPlace country) greatest_grn_serial mine (mine_rise raw.holder rows (apart.apart raw.holder)) count (rw is at placed.1))),
  )

  pub by_next : (next : Option StoredGuarantee) → TellsBelow true → IsFirstGuarantee version (is_after raw.holder count) a next → Tells (not (is_some next))
  by_next None told first = none_further told first
  by_next (Some next) told first = some_further next first
