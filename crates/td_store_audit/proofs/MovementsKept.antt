-- S5 is kept exactly where each row of movements is read, and each holder's are in their places.
use Rattle.std.proofs.Common.{◌≡◌, ◌∙◌, ◌+◌, ◌-◌, ◌<◌, ◌≤◌, ◌^◌, ℕ, Bool, true, false, not, List, [], ◌++◌, Option, subst, sym, arith, None, Some, ap₂, map, nat_lt, refl, subst₂}
use Rattle.std.proofs.lemmas.Bool.{false≢true}
use Rattle.std.specs.Prelude.{◌↔◌, ◌==◌, IsTrue, is_some}
use Rattle.std.specs.List.{AllByRecursion}
use Rattle.sqlite_trees.specs.Tree.{Trees}
use Rattle.sqlite_trees.proofs.ListLemmas.{all-filter, all-map, all_both, all_from_map, all_weaker}
use Rattle.sqlite.specs.State.{State}
use Rattle.td_model.specs.declared.holder_row.HolderRow.{HolderRow}
use Rattle.td_table_model.specs.declared.rule.Rule.TheVariants.{S1, S5}
use Rattle.td_table_model.specs.Gathering.{movements_by, owner, part, place}
use Rattle.td_table_model.specs.Rules.{HasMovements, IsMovementInRange}
use Rattle.td_table_model.specs.Tables.{Keyed, Tables}
use Rattle.td_table_model.proofs.Rebuilt.{all_in_order}
use Rattle.std.specs.Option.{option_map}
use Rattle.typed_sql.specs.Reading.{OnlyRead}
use Rattle.typed_sql.specs.Typed.{AreTyped, ComesFirst, IsTypedRow, row_of, typed_rows}
use Rattle.td_schema.specs.Layouts.{schema_of}
use Rattle.td_schema.specs.declared.layout.Layout.{Layout}
use Rattle.td_store_rows.specs.MovementTable.{AreBySerial, IsFirstMovement, movement_row_of}
use Rattle.td_store_rows.specs.Places.{by_place, is_after, is_within}
use Rattle.td_store_rows.specs.declared.movements.stored.MovementSerial.{MovementSerial}
use Rattle.td_store_rows.specs.declared.movements.stored.StoredMovement.{StoredMovement}
use Rattle.td_store_rows.specs.Columns.{holder_typing, movement_typing}
use Rattle.td_store_rows.specs.StoreTables.{tables_in}
use Rattle.td_store_audit_rows.specs.InPlace.{AreMovementsInPlace, AreNextMovements, IsMovementInPlace}
use Rattle.td_store_audit_rows.specs.Fields.{AreMovementFields}
use Rattle.td_store_audit_rows.specs.Found.{FoundHoldersTell, HasMrns, mrn_pair, raw_mrn_pair}
use Rattle.td_store_audit_rows.specs.Untyped.{AllRows, HasMrnCount, KeepsUntyped}
use Rattle.td_store_audit_rows.specs.Scans.{IsReadRow}
use Rattle.td_store_audit_rows.specs.Told.{MovementsAreRead}
use Rattle.td_store_audit_rows.specs.declared.holders.RawHolder.{RawHolder}
use Rattle.td_store_audit.specs.Auditable.{IsAuditable}
use Rattle.td_base.specs.References.{greatest_older_mrn_serial}
use Rattle.td_movement.specs.declared.movement.Movement.{Movement}
use Rattle.td_store_audit.specs.InFile.{AreTypedApart, HasMovementsInPlace, IsSoWhere, TellsWhere}
use Rattle.td_store_rows.specs.Ranges.{rows_below, rows_between}
use Rattle.td_store_audit.specs.Ranges.{AreSerialsIn, movements_below}
use Rattle.td_store_rows.proofs.RowRanges.{all_below, between_below, joined, mine_rise, none_below, within_apart, within_is}
use Rattle.td_store_audit.proofs.RowRanges.{none_is_behind, none_left, own_range, some_is_behind, upto}
use Rattle.td_store_audit.proofs.Reading.{so_before}
use Rattle.td_table_model.proofs.Orders.{rises-filter}
use Rattle.td_store_audit.proofs.HoldersTold.{holders_tell, of_pairs, owners}
use Rattle.td_store_rows.specs.StoreReads.{IsAny}

abbrev AreAllRead : Layout → Trees → Type 0
AreAllRead layout trees = AllRows movement_typing (IsReadRow movement_typing AreMovementFields) trees

module _ (law : FoundHoldersTell) (layout : Layout) (trees : Trees) (country : List ℕ) (holders : List RawHolder) (known : IsAuditable layout trees country holders) where
  abbrev t : Tables
  t = tables_in layout trees

  -- where S5 is kept each row is read
  pub kept_read : MovementsAreRead → KeepsUntyped layout trees S1 → KeepsUntyped layout trees S5 → AreAllRead layout trees
  kept_read read first keeps =
      let keyed = known.kept.movements keeps.0.1 in
      read layout trees (owners law layout trees country holders known first) keyed.owned keyed.apart keeps

  module _ (read : AreAllRead layout trees) where
    cells : AllRows movement_typing (IsTypedRow movement_typing) trees
    cells = all_weaker (IsReadRow movement_typing AreMovementFields) (IsTypedRow movement_typing) (λ r is. is.0) (trees movement_typing.table.tree) read

    fields : (H : ℕ) → AllByRecursion AreMovementFields (movements_by H t)
    fields H =
        all_in_order place AreMovementFields (part H t.movements)
        (all-filter AreMovementFields (λ r. owner r == H) t.movements
        (all-map AreMovementFields (row_of movement_typing) (trees movement_typing.table.tree)
        (all_weaker (IsReadRow movement_typing AreMovementFields) (λ r. AreMovementFields (row_of movement_typing r)) (λ r is. is.1) (trees movement_typing.table.tree) read)))

    -- a holder's count and movements keep S5 exactly where they are in their places
    abbrev IsInPlace : ℕ × ℕ → Type 0
    IsInPlace p = AreMovementsInPlace t.country p.1 (movements_by p.0 t)

    placed : (row : HolderRow) → HasMovements t row → IsInPlace (mrn_pair row)
    placed row has = record {
      serials = has.serials;
      count = has.count ∙ omega arith;
      most = has.most;
      each = all_weaker (IsMovementInRange t.country) (IsMovementInPlace t.country)
          (λ g is. record { mrn = is.mrn; days = is.status.days }) (movements_by row.holder t) has.columns;
    }

    ranged : (row : HolderRow) → IsInPlace (mrn_pair row) → HasMovements t row
    ranged row is = record {
      serials = is.serials;
      count = is.count ∙ omega arith;
      most = is.most;
      columns = all_both (IsMovementInPlace t.country) AreMovementFields (IsMovementInRange t.country)
          (λ g place_is field. record {
            mrn = place_is.mrn;
            lrn = field.lrn;
            departure = field.departure;
            destination = field.destination;
            accepted = field.accepted;
            status = record { days = place_is.days; limit = field.limit; arrival = field.arrival; actual = field.actual };
          }) (movements_by row.holder t) is.each (fields row.holder);
    }

    -- the counts of rows that keep S5 are in range
    counted : KeepsUntyped layout trees S5 → AllByRecursion HasMrns holders
    counted keeps =
        let told = holders_tell law layout trees country holders known in
        told.mrn_kinds.0
        (all_both HasMrnCount (λ r. HasMovements t (row_of holder_typing r)) (λ r. HasMrnCount r × ((row_of holder_typing r).mrn_count < 2 ^ 32))
        (λ r number has. (number, omega (arith, has.most))) (trees holder_typing.table.tree) keeps.0.0
        (all_from_map (HasMovements t) (row_of holder_typing) (trees holder_typing.table.tree) keeps.1))

    of_country : (h : RawHolder) → HasMrns h → IsInPlace (raw_mrn_pair h) → HasMovementsInPlace layout country trees h
    of_country h some is =
        (some, subst (λ c. AreMovementsInPlace c (raw_mrn_pair h).1 (movements_by h.holder t)) known.country_is is)

    of_tables : (h : RawHolder) → HasMovementsInPlace layout country trees h → IsInPlace (raw_mrn_pair h)
    of_tables h is = subst (λ c. AreMovementsInPlace c (raw_mrn_pair h).1 (movements_by h.holder t)) (sym known.country_is) is.1

    pub kept_each : KeepsUntyped layout trees S5 ↔ AllByRecursion (HasMovementsInPlace layout country trees) holders
    kept_each =
        let told = holders_tell law layout trees country holders known in (
          λ keeps.
              let some = counted keeps in
              all_both HasMrns (λ h. IsInPlace (raw_mrn_pair h)) (HasMovementsInPlace layout country trees) of_country holders some
              ((of_pairs mrn_pair raw_mrn_pair IsInPlace t.holders holders (told.mrn_counts some)).0
              (all_weaker (HasMovements t) (λ row. IsInPlace (mrn_pair row)) placed t.holders keeps.1)),
          λ each.
              let some = all_weaker (HasMovementsInPlace layout country trees) HasMrns (λ h is. is.0) holders each in
              let kinds = told.mrn_kinds.1 some in (
                (
                  all_weaker (λ r. HasMrnCount r × ((row_of holder_typing r).mrn_count < 2 ^ 32)) HasMrnCount (λ r is. is.0)
                      (trees holder_typing.table.tree) kinds,
                  cells,
                ),
                all_weaker (λ row. IsInPlace (mrn_pair row)) (HasMovements t) ranged t.holders
                    ((of_pairs mrn_pair raw_mrn_pair IsInPlace t.holders holders (told.mrn_counts some)).1
                    (all_weaker (HasMovementsInPlace layout country trees) (λ h. IsInPlace (raw_mrn_pair h)) of_tables holders each)),
              ),
        )

-- the movements of a holder below a serial, and those of a range
abbrev pub AreRowsBelow : State → ℕ → ℕ → List (Keyed Movement) → Type 0
AreRowsBelow a H first rows = IsSoWhere IsAny (λ layout. AreTypedApart movement_typing) (λ layout trees. rows ≡ movements_below layout trees H first) a

abbrev pub AreRowsOfRange : State → ℕ → ℕ → ℕ → List (Keyed Movement) → Type 0
AreRowsOfRange a H first next rows =
    IsSoWhere IsAny (λ layout. AreTypedApart movement_typing)
    (λ layout trees. rows ≡ rows_between first next (movements_by H (tables_in layout trees))) a

-- none are below the first serial
pub rows_none : (a : State) (H : ℕ) → AreRowsBelow a H 0 []
rows_none a H layout own has apart =
    sym (none_below 0 0 (movements_by H (tables_in layout a.now.trees)) (mine_rise H (tables_in layout a.now.trees).movements (apart.apart H)) (omega arith))

-- those that a statement shows of a range are those of the range
pub rows_of_range : (a : State) (H first next : ℕ) (found : List StoredMovement) → AreBySerial (is_within H first next) a found
    → AreRowsOfRange a H first next (map movement_row_of found)
rows_of_range a H first next found order layout own has apart =
    let rows = (tables_in layout a.now.trees).movements in
    order layout has apart.typed (within_apart H rows (apart.apart H) first next) ∙ within_is H rows (apart.apart H) first next

-- and stand behind those below it
pub rows_more : (a : State) (H first next : ℕ) → first ≤ next → (before found : List (Keyed Movement)) → AreRowsBelow a H first before
    → AreRowsOfRange a H first next found → AreRowsBelow a H next (before ++ found)
rows_more a H first next up before found those here layout own has apart =
    let mine = movements_by H (tables_in layout a.now.trees) in
    ap₂ (λ x y. x ++ y) (those layout own has apart) (here layout own has apart)
    ∙ sym (joined first next 0 mine (mine_rise H (tables_in layout a.now.trees).movements (apart.apart H)) up)

-- the movements of a range are in their places where all are that come before the end
pub range_tells : (country : List ℕ) (a : State) (H end first next : ℕ) → first < next → next ≤ end → (found : List (Keyed Movement))
    → AreRowsOfRange a H first next found → (b : Bool) → b ≡ false → IsTrue b ↔ AreNextMovements country (first - 1) (next - 1) found
    → TellsWhere IsAny (λ layout. AreTypedApart movement_typing) (λ layout trees. AreMovementsInPlace country (end - 1) (movements_below layout trees H end)) a false
range_tells country a H end first next less within found here b off tells layout own has apart = (
  λ t. absurd (false≢true t),
  λ all.
      let mine = movements_by H (tables_in layout a.now.trees) in
      let rise = mine_rise H (tables_in layout a.now.trees).movements (apart.apart H) in
      let range = own_range (IsMovementInPlace country) greatest_older_mrn_serial (rows_below end mine)
      (rises-filter place (λ r. nat_lt (place r) end) 0 mine rise) (end - 1) all first next less (omega (arith, less, within)) in
      let same : rows_between first next (rows_below end mine) ≡ found = between_below first next end mine within ∙ sym (here layout own has apart) in
      absurd (false≢true (sym off ∙ tells.1 (subst (AreNextMovements country (first - 1) (next - 1)) same range))),
)

-- what was found first is so before calls that only read
pub first_before : (a b : State) → ((l : Layout) → IsAny l → OnlyRead (schema_of l) a b) → (H count : ℕ) (next : Option StoredMovement)
    → IsFirstMovement (is_after H count) b next → IsFirstMovement (is_after H count) a next
first_before a b read H count next first l has typed =
    so_before IsAny (λ layout. AreTyped movement_typing)
    (λ layout trees. ComesFirst (is_after H count) by_place (typed_rows movement_typing trees) (option_map movement_row_of next)) a b read
    (λ layout own. first layout) l tt has typed

-- a holder's are where those below the serial behind the count are, and none stands behind the count
module _ (country : List ℕ) (a : State) (raw : RawHolder) (count end : ℕ) (is : raw.mrn_count ≡ Some count) (behind : end ≡ count + 1) where
  abbrev TellsBelow : Bool → Type 0
  TellsBelow =
      TellsWhere IsAny (λ layout. AreTypedApart movement_typing)
      (λ layout trees. AreMovementsInPlace country (end - 1) (movements_below layout trees raw.holder end)) a

  abbrev Tells : Bool → Type 0
  Tells = TellsWhere IsAny (λ layout. AreTypedApart movement_typing) (λ layout trees. HasMovementsInPlace layout country trees raw) a

  pub not_below : TellsBelow false → Tells false
  not_below told layout own has apart = (
    λ t. absurd (false≢true t),
    λ placed.
        let mine = movements_by raw.holder (tables_in layout a.now.trees) in
        let rise = mine_rise raw.holder (tables_in layout a.now.trees).movements (apart.apart raw.holder) in
        absurd (false≢true ((told layout own has apart).1
        (upto (IsMovementInPlace country) greatest_older_mrn_serial mine rise count (rw is at placed.1) end (omega (arith, behind))))),
  )

  pub none_further : TellsBelow true → IsFirstMovement (is_after raw.holder count) a None → Tells true
  none_further told first layout own has apart =
      let rows = (tables_in layout a.now.trees).movements in
      let mine = movements_by raw.holder (tables_in layout a.now.trees) in
      let same : rows_below end mine ≡ mine = rw behind (all_below (count + 1) mine (none_is_behind raw.holder count rows (first layout has apart.typed))) in
      let last : end - 1 ≡ count = omega (arith, behind) in (
        λ t. rw is (refl, subst₂ (AreMovementsInPlace country) last same ((told layout own has apart).0 refl)),
        λ placed. refl,
      )

  pub some_further : (next : StoredMovement) → IsFirstMovement (is_after raw.holder count) a (Some next) → Tells false
  some_further next first layout own has apart = (
    λ t. absurd (false≢true t),
    λ placed.
        let rows = (tables_in layout a.now.trees).movements in
        let mine = movements_by raw.holder (tables_in layout a.now.trees) in
        absurd (some_is_behind raw.holder count rows (movement_row_of next) (apart.apart raw.holder) (first layout has apart.typed)
        (none_left (IsMovementInPlace country) greatest_older_mrn_serial mine (mine_rise raw.holder rows (apart.apart raw.holder)) count (rw is at placed.1))),
  )

  pub by_next : (next : Option StoredMovement) → TellsBelow true → IsFirstMovement (is_after raw.holder count) a next → Tells (not (is_some next))
  by_next None told first = none_further told first
  by_next (Some next) told first = some_further next first

  -- and then those that count are those that count of the holder's
  pub counting_all : (next : Option StoredMovement) → is_some next ≡ false → IsFirstMovement (is_after raw.holder count) a next → (serials : List MovementSerial)
      → IsSoWhere IsAny (λ layout. AreTypedApart movement_typing) (λ layout trees. AreSerialsIn (movements_below layout trees raw.holder end) serials) a
      → IsSoWhere IsAny (λ layout. AreTypedApart movement_typing) (λ layout trees. AreSerialsIn (movements_by raw.holder (tables_in layout trees)) serials) a
  counting_all (Some next) none first serials those layout own has apart = absurd (false≢true (sym none))
  counting_all None none first serials those layout own has apart =
      let rows = (tables_in layout a.now.trees).movements in
      let mine = movements_by raw.holder (tables_in layout a.now.trees) in
      let same : rows_below end mine ≡ mine = rw behind (all_below (count + 1) mine (none_is_behind raw.holder count rows (first layout has apart.typed))) in
      subst (λ l. AreSerialsIn l serials) same (those layout own has apart)
