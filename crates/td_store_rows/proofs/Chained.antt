-- Statements one after another: each turns the tables that the one before it left, whatever the order of their rows.
use Rattle.std.proofs.Common.{◌∙◌, ℕ, Bool, List, ◌∷◌, ◌++◌, map, IsPermutation, refl}
use Rattle.std.specs.Prelude.{filter}
use Rattle.std.proofs.lemmas.List.Sorted.{IsPermutation-trans, IsPermutation-refl, IsPermutation-cons, IsPermutation-map, IsPermutation-append_right}
use Rattle.sqlite_trees.proofs.ListLemmas.{IsPermutation-filter}
use Rattle.sqlite.specs.State.{State}
use Rattle.sqlite_trees.specs.Tree.{Trees}
use Rattle.td_guarantee.specs.declared.guarantee.Guarantee.{Guarantee}
use Rattle.td_movement.specs.declared.movement.Movement.{Movement}
use Rattle.td_table_model.specs.Tables.{KeepAmounts, Keyed, Kept, LineCells, Tables}
use Rattle.td_table_model.specs.Changes.{HaveSameRows}
use Rattle.td_schema.specs.declared.layout.Layout.{Layout}
use Rattle.td_schema.specs.declared.layout.Layout.TheVariants.{Made1, Made2, Grown2, Made3, Grown3From2, Grown3From1}
use Rattle.td_store_rows.specs.StoreTables.{AreUnreadKept, HasTables, TurnsTables, tables_in}

-- what turns tables with the same rows into tables with the same rows
abbrev pub RespectsRows : (Tables → Tables) → Type 0
RespectsRows f = (t u : Tables) → HaveSameRows t u → HaveSameRows (f t) (f u)

pub same_rows : (t : Tables) → HaveSameRows t t
same_rows t = record {
  version = refl;
  country = refl;
  holders = IsPermutation-refl t.holders;
  guarantees = IsPermutation-refl t.guarantees;
  kept = λ keep. IsPermutation-refl t.kept;
  codes = IsPermutation-refl t.codes;
  movements = IsPermutation-refl t.movements;
  lines = IsPermutation-refl t.lines;
}

pub same_then : (t u v : Tables) → HaveSameRows t u → HaveSameRows u v → HaveSameRows t v
same_then t u v a b = record {
  version = b.version ∙ a.version;
  country = b.country ∙ a.country;
  holders = IsPermutation-trans _ _ _ a.holders b.holders;
  guarantees = IsPermutation-trans _ _ _ a.guarantees b.guarantees;
  kept = λ keep. IsPermutation-trans _ _ _ (a.kept keep) (b.kept (rw a.version keep));
  codes = IsPermutation-trans _ _ _ a.codes b.codes;
  movements = IsPermutation-trans _ _ _ a.movements b.movements;
  lines = IsPermutation-trans _ _ _ a.lines b.lines;
}

-- what nobody reads is as it was where nothing was done, and where two did nothing to it
unread_as_was : (l : Layout) (trees : Trees) → AreUnreadKept l trees trees
unread_as_was Made1 trees = tt
unread_as_was Made2 trees = tt
unread_as_was Grown2 trees = refl
unread_as_was Made3 trees = tt
unread_as_was Grown3From2 trees = refl
unread_as_was Grown3From1 trees = (refl, refl)

unread_then : (l : Layout) (a b d : Trees) → AreUnreadKept l a b → AreUnreadKept l b d → AreUnreadKept l a d
unread_then Made1 a b d one two = tt
unread_then Made2 a b d one two = tt
unread_then Grown2 a b d one two = two ∙ one
unread_then Made3 a b d one two = tt
unread_then Grown3From2 a b d one two = two ∙ one
unread_then Grown3From1 a b d one two = (two.0 ∙ one.0, two.1 ∙ one.1)

-- nothing was done
pub turned_nothing : (f : Tables → Tables) → ((t : Tables) → HaveSameRows (f t) t) → (a : State) → TurnsTables f a a
turned_nothing f same a l newest has typed =
    record { same = same (tables_in l a.now.trees); office = refl; typed = typed; listed = λ was. was; schema = has; unread = unread_as_was l a.now.trees }

-- two statements, in a file of one layout
pub has_then : (l : Layout) (f g : Tables → Tables) → RespectsRows g → (a b d : State) → HasTables l f a b → HasTables l g b d
    → HasTables l (λ t. g (f t)) a d
has_then l f g respects a b d one two = record {
  same = same_then _ _ _ (respects _ _ one.same) two.same;
  office = two.office ∙ one.office;
  typed = two.typed;
  listed = λ was. two.listed (one.listed was);
  schema = two.schema;
  unread = unread_then l a.now.trees b.now.trees d.now.trees one.unread two.unread;
}

-- the tables that they leave, said otherwise
pub has_as : (l : Layout) (f g : Tables → Tables) (old new : State) → HaveSameRows (g (tables_in l old.now.trees)) (f (tables_in l old.now.trees))
    → HasTables l f old new → HasTables l g old new
has_as l f g old new same one = record {
  same = same_then _ _ _ same one.same;
  office = one.office;
  typed = one.typed;
  listed = one.listed;
  schema = one.schema;
  unread = one.unread;
}

-- the same of each layout of the newest version
pub turned_then : (f g : Tables → Tables) → RespectsRows g → (a b d : State) → TurnsTables f a b → TurnsTables g b d
    → TurnsTables (λ t. g (f t)) a d
turned_then f g respects a b d first second l newest has typed =
    let one = first l newest has typed in
    has_then l f g respects a b d one (second l newest one.schema one.typed)

pub turned_as : (f g : Tables → Tables) (old new : State) → ((t : Tables) → HaveSameRows (g t) (f t))
    → TurnsTables f old new → TurnsTables g old new
turned_as f g old new same turns l newest has typed = has_as l f g old new (same _) (turns l newest has typed)

-- a function of one table's rows that respects them
abbrev pub Respects : {R : Type 0} → (List R → List R) → Type 0
Respects f = (xs ys : List _) → IsPermutation xs ys → IsPermutation (f xs) (f ys)

-- one row more, a change of each, and those that are left
pub cons_respects : {R : Type 0} (x : R) → Respects (λ rows. x ∷ rows)
cons_respects x xs ys same = IsPermutation-cons x xs ys same

pub append_respects : {R : Type 0} (these : List R) → Respects (λ rows. these ++ rows)
append_respects these xs ys same = IsPermutation-append_right these xs ys same

pub map_respects : {R : Type 0} (f : R → R) → Respects (map f)
map_respects f xs ys same = IsPermutation-map f xs ys same

pub filter_respects : {R : Type 0} (p : R → Bool) → Respects (filter p)
filter_respects p xs ys same = IsPermutation-filter p xs ys same

-- the same rows where one table has others, the same in both
pub kept_same : (t u : Tables) (xs ys : List (Keyed Guarantee)) (ks ls : List (Keyed Kept)) → HaveSameRows t u → IsPermutation xs ys
    → (KeepAmounts t → IsPermutation ks ls)
    → HaveSameRows (record t { guarantees = xs; kept = ks }) (record u { guarantees = ys; kept = ls })
kept_same t u xs ys ks ls same rows kept = record {
  version = same.version;
  country = same.country;
  holders = same.holders;
  guarantees = rows;
  kept = kept;
  codes = same.codes;
  movements = same.movements;
  lines = same.lines;
}

pub kept_respect : (f : List (Keyed Kept) → List (Keyed Kept)) (g : List (Keyed Guarantee) → List (Keyed Guarantee)) → Respects f → Respects g
    → RespectsRows (λ t. record t { guarantees = g t.guarantees; kept = f t.kept })
kept_respect f g respects plainly t u same =
    kept_same t u _ _ _ _ same (plainly t.guarantees u.guarantees same.guarantees) (λ keeps. respects t.kept u.kept (same.kept keeps))

pub codes_same : (t u : Tables) (xs ys : List (Keyed (List ℕ))) → HaveSameRows t u → IsPermutation xs ys
    → HaveSameRows (record t { codes = xs }) (record u { codes = ys })
codes_same t u xs ys same rows = record {
  version = same.version;
  country = same.country;
  holders = same.holders;
  guarantees = same.guarantees;
  kept = same.kept;
  codes = rows;
  movements = same.movements;
  lines = same.lines;
}

pub codes_respect : (f : List (Keyed (List ℕ)) → List (Keyed (List ℕ))) → Respects f → RespectsRows (λ t. record t { codes = f t.codes })
codes_respect f respects t u same = codes_same t u _ _ same (respects t.codes u.codes same.codes)

pub movements_same : (t u : Tables) (xs ys : List (Keyed Movement)) → HaveSameRows t u → IsPermutation xs ys
    → HaveSameRows (record t { movements = xs }) (record u { movements = ys })
movements_same t u xs ys same rows = record {
  version = same.version;
  country = same.country;
  holders = same.holders;
  guarantees = same.guarantees;
  kept = same.kept;
  codes = same.codes;
  movements = rows;
  lines = same.lines;
}

pub movements_respect : (f : List (Keyed Movement) → List (Keyed Movement)) → Respects f → RespectsRows (λ t. record t { movements = f t.movements })
movements_respect f respects t u same = movements_same t u _ _ same (respects t.movements u.movements same.movements)

pub lines_same : (t u : Tables) (xs ys : List (Keyed LineCells)) → HaveSameRows t u → IsPermutation xs ys
    → HaveSameRows (record t { lines = xs }) (record u { lines = ys })
lines_same t u xs ys same rows = record {
  version = same.version;
  country = same.country;
  holders = same.holders;
  guarantees = same.guarantees;
  kept = same.kept;
  codes = same.codes;
  movements = same.movements;
  lines = rows;
}

pub lines_respect : (f : List (Keyed LineCells) → List (Keyed LineCells)) → Respects f → RespectsRows (λ t. record t { lines = f t.lines })
lines_respect f respects t u same = lines_same t u _ _ same (respects t.lines u.lines same.lines)
