-- Rows that are seen to rise, one after another.
use Rattle.std.proofs.Common.{append-nil, append_assoc, ◌≡◌, ◌∙◌, ◌+◌, ◌≤◌, Bool, true, false, cond, List, [], ◌∷◌, ◌++◌, length, Option, Some, None, refl, sym, subst, ap, arith}
use Rattle.std.specs.Prelude.{ℤ, ◌<ℤ◌, ◌≤ℤ◌, ◌↔◌, IfSome, IsSome, IsTrue, filter}
use Rattle.std.specs.List.{AllByRecursion}
use Rattle.std.specs.Ordering.{int_cmp, is_eq}
use Rattle.std.proofs.lemmas.Int.{ints}
use Rattle.sqlite_value.specs.declared.value.Value.TheVariants.{Int}
use Rattle.sqlite_value.specs.Order.{Row, column, value_cmp}
use Rattle.sqlite_value.proofs.OrderLemmas.{value_cmp-Int}
use Rattle.sqlite_trees.specs.Tree.{has_rowid, rowid}
use Rattle.sqlite_trees.proofs.ListLemmas.{all_weaker}
use Rattle.sqlite_rules.specs.Edit.{id_in}
use Rattle.td_store_audit_rows.specs.Ids.{IsAbove}
use Rattle.td_store_audit_rows.specs.Rising.{Rise, RiseTo, TellsRising}
use Rattle.typed_sql.specs.Writing.{HaveIds}

-- no rowid is above the last one
abbrev AreUpTo : Option ℤ → List Row → Type 0
AreUpTo None rows = rows ≡ []
AreUpTo (Some last) rows = AllByRecursion (λ r. id_in (rowid r) ≤ℤ last) rows

-- the rowids of the rows rise up to the last one
record HaveRisen (last : Option ℤ) (rows : List Row) : Type 0 where
  ids : HaveIds rows
  upto : AreUpTo last rows

all_push : {X : Type 0} (P : X → Type 0) (xs : List X) (y : X) → AllByRecursion P xs → P y → AllByRecursion P (xs ++ y ∷ [])
all_push P [] y all last = (last, tt)
all_push P (x ∷ xs) y all last = (all.0, all_push P xs y all.1 last)

all_pop : {X : Type 0} (P : X → Type 0) (xs : List X) (y : X) → AllByRecursion P (xs ++ y ∷ []) → AllByRecursion P xs × P y
all_pop P [] y all = (tt, all.0)
all_pop P (x ∷ xs) y all = let rest = all_pop P xs y all.1 in ((all.0, rest.0), rest.1)

-- whether all are so, after one more
pub tells_all : {X : Type 0} (P : X → Type 0) (before after : Bool) (xs : List X) (y : X) → IsTrue before ↔ AllByRecursion P xs
    → IsTrue after ↔ (IsTrue before × P y) → IsTrue after ↔ AllByRecursion P (xs ++ y ∷ [])
tells_all P before after xs y known both = (
  λ is. let now = both.0 is in all_push P xs y (known.0 now.0) now.1,
  λ all. let apart = all_pop P xs y all in both.1 (known.1 apart.0, apart.1),
)

count_push : (p : Row → Bool) (xs : List Row) (y : Row) → length (filter p (xs ++ y ∷ [])) ≡ length (filter p xs) + length (filter p (y ∷ []))
count_push p [] y = omega arith
count_push p (x ∷ xs) y =
    elim (p x) as (λ b. length (cond b (x ∷ filter p (xs ++ y ∷ [])) (filter p (xs ++ y ∷ [])))
    ≡ length (cond b (x ∷ filter p xs) (filter p xs)) + length (filter p (y ∷ [])))
    [ true ↦ omega (arith, count_push p xs y) | false ↦ count_push p xs y ]

none_yet : HaveRisen None []
none_yet = record { ids = record { ints = tt; apart = λ id. omega arith }; upto = refl }

below_all : (last : Option ℤ) (id : ℤ) (rows : List Row) → IsAbove last id → AreUpTo last rows → AllByRecursion (λ r. id_in (rowid r) <ℤ id) rows
below_all None id rows above upto = subst (AllByRecursion (λ r. id_in (rowid r) <ℤ id)) (sym upto) tt
below_all (Some last) id rows above upto =
    all_weaker (λ r. id_in (rowid r) ≤ℤ last) (λ r. id_in (rowid r) <ℤ id) (λ r low. grind (arith, ints, low, above)) rows upto

another : (n id : ℤ) → n <ℤ id → is_eq (value_cmp (Int n) (Int id)) ≡ false
another n id low = ap is_eq (value_cmp-Int n id) ∙ grind (arith, ints, low)

none_so_far : (id : ℤ) (rows : List Row) → AllByRecursion (λ r. rowid r ≡ Int (id_in (rowid r))) rows → AllByRecursion (λ r. id_in (rowid r) <ℤ id) rows
    → length (filter (has_rowid id) rows) ≡ 0
none_so_far id [] ints below = refl
none_so_far id (r ∷ rows) ints below =
    let not_it : has_rowid id r ≡ false = ap (λ v. is_eq (value_cmp v (Int id))) ints.0 ∙ another (id_in (rowid r)) id below.0 in
    rw not_it (none_so_far id rows ints.1 below.1)

ints_same : (a b : ℤ) → is_eq (value_cmp (Int a) (Int b)) ≡ true → a ≡ b
ints_same a b h = let e : is_eq (int_cmp a b) ≡ true = sym (ap is_eq (value_cmp-Int a b)) ∙ h in grind (arith, ints, e)

-- one row more
one_more : (last : Option ℤ) (id : ℤ) (rows : List Row) (r : Row) → HaveRisen last rows → rowid r ≡ Int id → IsAbove last id
    → HaveRisen (Some id) (rows ++ r ∷ [])
one_more last id rows r risen is above =
    let below = below_all last id rows above risen.upto in
    let own : id_in (rowid r) ≡ id = ap id_in is in
    record {
      ids = record {
        ints = all_push (λ r. rowid r ≡ Int (id_in (rowid r))) rows r risen.ids.ints (is ∙ ap Int (sym own));
        apart = λ k. go k (has_rowid k r) refl below;
      };
      upto = all_push (λ r. id_in (rowid r) ≤ℤ id) rows r
          (all_weaker (λ r. id_in (rowid r) <ℤ id) (λ r. id_in (rowid r) ≤ℤ id) (λ r low. grind (arith, ints, low)) rows below)
          (grind (arith, ints, own));
    }
  where
    go : (k : ℤ) (b : Bool) → has_rowid k r ≡ b → AllByRecursion (λ r. id_in (rowid r) <ℤ id) rows → length (filter (has_rowid k) (rows ++ r ∷ [])) ≤ 1
    go k true its below =
        let same : id ≡ k = ints_same id k (ap (λ v. is_eq (value_cmp v (Int k))) (sym is) ∙ its) in
        let none : length (filter (has_rowid k) rows) ≡ 0 = subst (λ n. length (filter (has_rowid n) rows) ≡ 0) same (none_so_far id rows risen.ids.ints below) in
        let one : length (filter (has_rowid k) (r ∷ [])) ≡ 1 = rw its refl in
        omega (arith, none, one, count_push (has_rowid k) rows r)
    go k false its below =
        let one : length (filter (has_rowid k) (r ∷ [])) ≡ 0 = rw its refl in
        omega (arith, risen.ids.apart k, one, count_push (has_rowid k) rows r)

-- rows that rise further
risen_on : (front rows : List Row) (before last : Option ℤ) → HaveRisen before front → RiseTo before rows last → HaveRisen last (front ++ rows)
risen_on front [] before last risen is = subst (HaveRisen last) (sym (append-nil front)) (subst (λ l. HaveRisen l front) (sym is) risen)
risen_on front (r ∷ rows) before last risen rise =
    subst (HaveRisen last) (append_assoc front (r ∷ []) rows)
    (risen_on (front ++ r ∷ []) rows (Some rise.0) last (one_more before rise.0 front r risen rise.1 rise.2) rise.3)

-- so the rowids of rows that rise are integers, and no two are the same
pub ids_of_rising : (rows : List Row) → Rise rows → HaveIds rows
ids_of_rising rows rise = (risen_on [] rows None rise.0 none_yet rise.1).ids

-- one row more rises, too
rise_push : (before last : Option ℤ) (rows : List Row) (r : Row) (id : ℤ) → RiseTo before rows last → column r 0 ≡ Int id → IsAbove last id
    → RiseTo before (rows ++ r ∷ []) (Some id)
rise_push before last [] r id rise is above = (id, is, subst (λ l. IsAbove l id) rise above, refl)
rise_push before last (x ∷ rows) r id rise is above = (rise.0, rise.1, rise.2, rise_push (Some rise.0) last rows r id rise.3 is above)

-- the last row is above those before it
rise_pop : (before last : Option ℤ) (rows : List Row) (r : Row) → RiseTo before (rows ++ r ∷ []) last
    → (end : Option ℤ) × RiseTo before rows end × (id : ℤ) × (column r 0 ≡ Int id) × IsAbove end id
rise_pop before last [] r rise = (before, refl, rise.0, rise.1, rise.2)
rise_pop before last (x ∷ rows) r rise =
    let popped = rise_pop (Some rise.0) last rows r rise.3 in
    (popped.0, (rise.0, rise.1, rise.2, popped.1), popped.2, popped.3, popped.4)

-- rows rise to one integer
rise_once : (before last other : Option ℤ) (rows : List Row) → RiseTo before rows last → RiseTo before rows other → last ≡ other
rise_once before last other [] rise also = rise ∙ sym also
rise_once before last other (r ∷ rows) rise also =
    let same : rise.0 ≡ also.0 = let e = sym rise.1 ∙ also.1 in cc in
    rise_once (Some also.0) last other rows (subst (λ n. RiseTo (Some n) rows last) same rise.3) also.3

pub tells_none_yet : TellsRising true None []
tells_none_yet = record { told = (λ is. (None, refl), λ rise. refl); upto = λ is. refl }

-- what is told after one row more, of which the next integer is shown where it is above the last one
pub tells_next : (before after : Bool) (last next : Option ℤ) (rows : List Row) (r : Row) → TellsRising before last rows
    → IfSome next (λ id. (column r 0 ≡ Int id) × IsAbove last id) → (next ≡ None → (id : ℤ) → column r 0 ≡ Int id → IsAbove last id → ⊥)
    → IsTrue after ↔ (IsTrue before × IsSome next) → TellsRising after next (rows ++ r ∷ [])
tells_next before after last None rows r knew some none both = record {
  told = (
    λ is. let there = (both.0 is).1 in cc,
    λ rise.
        let popped = rise_pop None rise.0 rows r rise.1 in
        let same : popped.0 ≡ last = rise_once None popped.0 last rows popped.1 (knew.upto (knew.told.1 (popped.0, popped.1))) in
        absurd (none refl popped.2 popped.3 (subst (λ l. IsAbove l popped.2) same popped.4)),
  );
  upto = λ is. let there = (both.0 is).1 in cc;
}
tells_next before after last (Some id) rows r knew some none both = record {
  told = (
    λ is. (Some id, rise_push None last rows r id (knew.upto (both.0 is).0) some.0 some.1),
    λ rise. let popped = rise_pop None rise.0 rows r rise.1 in both.1 (knew.told.1 (popped.0, popped.1), refl),
  );
  upto = λ is. rise_push None last rows r id (knew.upto (both.0 is).0) some.0 some.1;
}
