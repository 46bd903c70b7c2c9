-- What was found of all holders says of all rows of their table.
use Rattle.std.proofs.Common.{◌≡◌, ℕ, List, map, Option, Some, None, refl, subst, sym, arith}
use Rattle.std.specs.Prelude.{◌↔◌, IfSome, IsSome, unwrap_or}
use Rattle.std.specs.List.{AllByRecursion}
use Rattle.std.proofs.lemmas.List.Sorted.{IsPermutation-sym}
use Rattle.sqlite_trees.specs.Tree.{Trees}
use Rattle.sqlite_trees.proofs.ListLemmas.{all-map, all-permutation, all_both, all_from_map, all_of}
use Rattle.sqlite_value.specs.Order.{Row}
use Rattle.td_base.specs.Codes.{IsAccessCode}
use Rattle.td_model.specs.declared.holder_row.HolderRow.{HolderRow}
use Rattle.td_table_model.specs.Gathering.{part}
use Rattle.td_table_model.specs.Rules.{HasCodes, HasGuarantees, HasLines, HasMovements}
use Rattle.td_table_model.specs.Tables.{Keyed, Tables}
use Rattle.td_table_model.proofs.Ruled.{are_mine}
use Rattle.typed_sql.specs.Typed.{row_of, typed_rows}
use Rattle.td_schema.specs.declared.layout.Layout.{Layout}
use Rattle.td_store_rows.specs.Columns.{holder_typing}
use Rattle.td_store_rows.specs.StoreTables.{tables_in}
use Rattle.td_store_audit_rows.specs.Holders.{AreHoldersIn, HolderFields, fields_of, fields_of_raw}
use Rattle.td_store_audit_rows.specs.Untyped.{AllRows, HasGrnCount, HasMrnCount}
use Rattle.td_store_audit_rows.specs.Told.{HolderFieldsTell}
use Rattle.td_store_audit_rows.specs.declared.holders.RawHolder.{RawHolder}
use Rattle.td_store_audit.specs.InPlace.{AreAllLinesInPlace, AreCodesInPlace}
use Rattle.td_store_audit.specs.Premises.{HasCodesInPlace, HasLinesInPlace}
use Rattle.td_store_audit.proofs.Tells.{codes_tell, lines_tell}

-- the value of a field that is there
value_is : (o : Option ℕ) (n d : ℕ) → IsSome o → IfSome o (λ k. k ≡ n) → unwrap_or o d ≡ n
value_is None n d some is = cc
value_is (Some k) n d some is = is

module _ (layout : Layout) (trees : Trees) (found : List RawHolder) (all : AreHoldersIn trees found) (tell : HolderFieldsTell) where
  abbrev rows : List Row
  rows = trees holder_typing.table.tree

  -- what holds of the fields of all rows holds of all that were found, and the other way round
  to_found : (P : HolderFields → Type 0) → AllByRecursion (λ r. P (fields_of r)) rows → AllByRecursion (λ h. P (fields_of_raw h)) found
  to_found P each = all_from_map P fields_of_raw found (all-permutation P (map fields_of rows) (map fields_of_raw found) all (all-map P fields_of rows each))

  to_rows : (P : HolderFields → Type 0) → AllByRecursion (λ h. P (fields_of_raw h)) found → AllByRecursion (λ r. P (fields_of r)) rows
  to_rows P each =
      all_from_map P fields_of rows (all-permutation P (map fields_of_raw found) (map fields_of rows) (IsPermutation-sym (map fields_of rows) (map fields_of_raw found) all)
      (all-map P fields_of_raw found each))

  -- each row has a holder's number
  numbered : AllByRecursion (λ r. IsSome (fields_of r).holder) rows
  numbered = to_rows (λ f. IsSome f.holder) (all_of (λ (h : RawHolder). IsSome (fields_of_raw h).holder) (λ h. refl) found)

  number_is : (r : Row) → IsSome (fields_of r).holder → unwrap_or (fields_of r).holder 0 ≡ (row_of holder_typing r).holder
  number_is r some = value_is (fields_of r).holder (row_of holder_typing r).holder 0 some (tell r).1.holder

  -- a test of the fields that says of each row what another says of the row of the holder
  pub told : (P : HolderFields → Type 0) (K : Row → Type 0) (Q : HolderRow → Type 0)
      → ((r : Row) → IsSome (fields_of r).holder → K r → P (fields_of r) ↔ Q (row_of holder_typing r)) → AllByRecursion K rows
      → AllByRecursion (λ h. P (fields_of_raw h)) found ↔ AllByRecursion Q (typed_rows holder_typing trees)
  told P K Q says known = (
    λ each. all-map Q (row_of holder_typing) rows
        (all_both (λ r. IsSome (fields_of r).holder × K r) (λ r. P (fields_of r)) (λ r. Q (row_of holder_typing r)) (λ r k p. (says r k.0 k.1).0 p) rows both (to_rows P each)),
    λ each. to_found P
        (all_both (λ r. IsSome (fields_of r).holder × K r) (λ r. Q (row_of holder_typing r)) (λ r. P (fields_of r)) (λ r k q. (says r k.0 k.1).1 q) rows both
        (all_from_map Q (row_of holder_typing) rows each)),
  )
    where
      both : AllByRecursion (λ r. IsSome (fields_of r).holder × K r) rows
      both = all_both (λ r. IsSome (fields_of r).holder) K (λ r. IsSome (fields_of r).holder × K r) (λ r some k. (some, k)) rows numbered known

  -- the count of guarantees of a row whose guarantees keep their rule
  grn_there : (r : Row) → HasGrnCount r → HasGuarantees (tables_in layout trees) (row_of holder_typing r) → IsSome (fields_of r).grn_count
  grn_there r kind has = (tell r).0.grn_count.1 (kind, omega (arith, has.most))

  grn_is : (r : Row) → HasGrnCount r → HasGuarantees (tables_in layout trees) (row_of holder_typing r) → unwrap_or (fields_of r).grn_count 0 ≡ (row_of holder_typing r).grn_count
  grn_is r kind has = value_is (fields_of r).grn_count (row_of holder_typing r).grn_count 0 (grn_there r kind has) (tell r).1.grn_count

  abbrev t : Tables
  t = tables_in layout trees

  -- the codes of each holder that was found are in their places exactly where those of each holder's row keep the rule
  pub codes_told : AllRows holder_typing HasGrnCount trees → AllByRecursion (HasGuarantees t) t.holders
      → ((H : ℕ) → AllByRecursion (λ (c : Keyed (List ℕ)). IsAccessCode c.row) (part H t.codes))
      → AllByRecursion (HasCodesInPlace trees) found ↔ AllByRecursion (HasCodes t) t.holders
  codes_told kinds keeps forms =
      told (λ f. IsSome f.grn_count × AreCodesInPlace (unwrap_or f.grn_count 0) (part (unwrap_or f.holder 0) t.codes))
      (λ r. HasGrnCount r × HasGuarantees t (row_of holder_typing r)) (HasCodes t) says
      (all_both HasGrnCount (λ r. HasGuarantees t (row_of holder_typing r)) (λ r. HasGrnCount r × HasGuarantees t (row_of holder_typing r)) (λ r k h. (k, h)) rows kinds
      (all_from_map (HasGuarantees t) (row_of holder_typing) rows keeps))
    where
      says : (r : Row) → IsSome (fields_of r).holder → HasGrnCount r × HasGuarantees t (row_of holder_typing r)
          → (IsSome (fields_of r).grn_count × AreCodesInPlace (unwrap_or (fields_of r).grn_count 0) (part (unwrap_or (fields_of r).holder 0) t.codes)) ↔ HasCodes t (row_of holder_typing r)
      says r some k =
          let row = row_of holder_typing r in
          let tells = codes_tell t row k.1 (are_mine row.holder t.guarantees) (forms row.holder) in
          let number = number_is r some in
          let count = grn_is r k.0 k.1 in (
            λ are. tells.0 (subst (λ n. AreCodesInPlace n (part row.holder t.codes)) count (subst (λ H. AreCodesInPlace (unwrap_or (fields_of r).grn_count 0) (part H t.codes)) number are.1)),
            λ has. (
              grn_there r k.0 k.1,
              subst (λ H. AreCodesInPlace (unwrap_or (fields_of r).grn_count 0) (part H t.codes)) (sym number)
                  (subst (λ n. AreCodesInPlace n (part row.holder t.codes)) (sym count) (tells.1 has)),
            ),
          )

  -- the count of movements of a row whose movements keep their rule
  mrn_there : (r : Row) → HasMrnCount r → HasMovements t (row_of holder_typing r) → IsSome (fields_of r).mrn_count
  mrn_there r kind has = (tell r).0.mrn_count.1 (kind, omega (arith, has.most))

  mrn_is : (r : Row) → HasMrnCount r → HasMovements t (row_of holder_typing r) → unwrap_or (fields_of r).mrn_count 0 ≡ (row_of holder_typing r).mrn_count
  mrn_is r kind has = value_is (fields_of r).mrn_count (row_of holder_typing r).mrn_count 0 (mrn_there r kind has) (tell r).1.mrn_count

  -- a row whose counts are of their kinds, and whose guarantees and movements keep their rules
  record IsCounted (r : Row) : Type 0 where
    grns : HasGrnCount r
    guarantees : HasGuarantees t (row_of holder_typing r)
    mrns : HasMrnCount r
    movements : HasMovements t (row_of holder_typing r)

  -- the fields of a holder say that the lines are in their places
  abbrev HasItsLines : HolderFields → Type 0
  HasItsLines f =
      (IsSome f.grn_count × IsSome f.mrn_count)
      × AreAllLinesInPlace (unwrap_or f.grn_count 0) (unwrap_or f.mrn_count 0) (part (unwrap_or f.holder 0) t.lines)

  -- the lines of each holder that was found are in their places exactly where those of each holder's row keep the rule
  pub lines_told : AllRows holder_typing HasGrnCount trees → AllByRecursion (HasGuarantees t) t.holders
      → AllRows holder_typing HasMrnCount trees → AllByRecursion (HasMovements t) t.holders
      → AllByRecursion (HasLinesInPlace layout trees) found ↔ AllByRecursion (HasLines t) t.holders
  lines_told grn_kinds guarantees mrn_kinds movements = told HasItsLines IsCounted (HasLines t) says counted
    where
      counted : AllByRecursion IsCounted rows
      counted =
          all_both (λ r. HasGrnCount r × HasGuarantees t (row_of holder_typing r)) (λ r. HasMrnCount r × HasMovements t (row_of holder_typing r)) IsCounted
          (λ r g m. record { grns = g.0; guarantees = g.1; mrns = m.0; movements = m.1 }) rows
          (all_both HasGrnCount (λ r. HasGuarantees t (row_of holder_typing r)) (λ r. HasGrnCount r × HasGuarantees t (row_of holder_typing r)) (λ r k h. (k, h)) rows grn_kinds
          (all_from_map (HasGuarantees t) (row_of holder_typing) rows guarantees))
          (all_both HasMrnCount (λ r. HasMovements t (row_of holder_typing r)) (λ r. HasMrnCount r × HasMovements t (row_of holder_typing r)) (λ r k h. (k, h)) rows mrn_kinds
          (all_from_map (HasMovements t) (row_of holder_typing) rows movements))

      says : (r : Row) → IsSome (fields_of r).holder → IsCounted r → HasItsLines (fields_of r) ↔ HasLines t (row_of holder_typing r)
      says r some k =
          let row = row_of holder_typing r in
          let tells = lines_tell t row k.guarantees (are_mine row.holder t.guarantees) k.movements (are_mine row.holder t.movements) in
          let number = number_is r some in
          let grns = grn_is r k.grns k.guarantees in
          let mrns = mrn_is r k.mrns k.movements in (
            λ are. tells.0 (rw (number, grns, mrns) at are.1),
            λ has. ((grn_there r k.grns k.guarantees, mrn_there r k.mrns k.movements), rw (number, grns, mrns) (tells.1 has)),
          )
