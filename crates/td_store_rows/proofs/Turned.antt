-- A statement that turned the rows of one table, seen at all tables: the others are as they were.
use Rattle.std.proofs.Common.{◌≡◌, ◌≢◌, ◌≤◌, ◌∙◌, ℕ, List, [], ◌∷◌, map, take, ap, refl, sym, subst, subst₂, IsPermutation}
use Rattle.std.proofs.lemmas.List.Sorted.{IsPermutation-map}
use Rattle.std.specs.List.{AllByRecursion}
use Rattle.sqlite_trees.specs.Tree.{Trees}
use Rattle.sqlite_trees.proofs.ListLemmas.{IsPermutation-same, all_weaker}
use Rattle.sqlite_value.specs.Order.{Row}
use Rattle.sqlite.specs.Effect.{Database, IsDatabase}
use Rattle.sqlite.specs.State.{State}
use Rattle.td_model.specs.declared.holder_row.HolderRow.{HolderRow}
use Rattle.td_guarantee.specs.declared.guarantee.Guarantee.{Guarantee}
use Rattle.td_movement.specs.declared.movement.Movement.{Movement}
use Rattle.td_table_model.specs.Tables.{Keyed, Kept, LineCells, Tables, version_with_amounts, without_amount}
use Rattle.td_schema.specs.Layouts.{guarantees_tree, lines_tree, schema_of}
use Rattle.td_schema.specs.declared.layout.Layout.{Layout}
use Rattle.td_schema.specs.declared.layout.Layout.TheVariants.{Made1, Made2, Grown2, Made3, Grown3From2, Grown3From1}
use Rattle.typed_sql.specs.Writing.{AreOthersKept, HaveIds, HasSchema}
use Rattle.typed_sql.specs.Typed.{Typing, AreTyped, HasNow, IsTypedRow, Turns, row_of, typed_rows}
use Rattle.td_store_rows.specs.Columns.{meta_typing, holder_typing, guarantee_typing, kept_typing, code_typing, movement_typing, line_typing}
use Rattle.td_store_rows.specs.StoreTables.{AreAllTyped, AreStoreTrees, AreUnreadKept, HasTables, tables_in, country_in}
use Rattle.td_store_rows.specs.StoreReads.{KeepsUse}

-- a table whose tree is as it was has the same rows, typed as before
rows_still : {R : Type 0} (ty : Typing R) (old new : Trees) → new ty.table.tree ≡ old ty.table.tree
    → IsPermutation (typed_rows ty old) (typed_rows ty new)
rows_still ty old new is = IsPermutation-same _ _ (ap (map (row_of ty)) (sym is))

typed_still : {R : Type 0} (ty : Typing R) (old new : Trees) → new ty.table.tree ≡ old ty.table.tree
    → AreTyped ty old → AreTyped ty new
typed_still ty old new is typed = record {
  ids = subst HaveIds (sym is) typed.ids;
  cells = subst (AllByRecursion (IsTypedRow ty)) (sym is) typed.cells;
}

-- the office's row is as it was where its tree is
office_still : (old new : Trees) → new 0 ≡ old 0 → typed_rows meta_typing new ≡ typed_rows meta_typing old
office_still old new is = ap (map (row_of meta_typing)) is

-- what lists a store's tables, and obeys them
pub listed_there : (l : Layout) (db : Database) → db.schema ≡ schema_of l → IsDatabase db → AreStoreTrees l db.trees
listed_there l db has sound = subst (λ s. IsDatabase (record { schema = s; trees = db.trees })) has sound

-- this tree is none that nobody reads
abbrev IsApart : Layout → ℕ → Type 0
IsApart Made1 tree = Unit {0}
IsApart Made2 tree = Unit {0}
IsApart Grown2 tree = guarantees_tree Made1 ≢ tree
IsApart Made3 tree = Unit {0}
IsApart Grown3From2 tree = lines_tree Made2 ≢ tree
IsApart Grown3From1 tree = (guarantees_tree Made1 ≢ tree) × (lines_tree Made1 ≢ tree)

-- the trees of guarantees and of lines are none of the other tables', and two; and none of those that are read is one that isn't
record StandsApart (l : Layout) : Type 0 where
  meta : guarantees_tree l ≢ 0
  holders : guarantees_tree l ≢ 1
  codes : guarantees_tree l ≢ 2
  movements : guarantees_tree l ≢ 4
  lines : guarantees_tree l ≢ lines_tree l
  lines_meta : lines_tree l ≢ 0
  lines_holders : lines_tree l ≢ 1
  lines_codes : lines_tree l ≢ 2
  lines_movements : lines_tree l ≢ 4
  unread_holders : IsApart l 1
  unread_codes : IsApart l 2
  unread_movements : IsApart l 4
  unread_guarantees : IsApart l (guarantees_tree l)
  unread_lines : IsApart l (lines_tree l)

apart : (l : Layout) → StandsApart l
apart Made1 = record { meta = λ e. cc; holders = λ e. cc; codes = λ e. cc; movements = λ e. cc; lines = λ e. cc; lines_meta = λ e. cc; lines_holders = λ e. cc; lines_codes = λ e. cc; lines_movements = λ e. cc; unread_holders = tt; unread_codes = tt; unread_movements = tt; unread_guarantees = tt; unread_lines = tt }
apart Made2 = record { meta = λ e. cc; holders = λ e. cc; codes = λ e. cc; movements = λ e. cc; lines = λ e. cc; lines_meta = λ e. cc; lines_holders = λ e. cc; lines_codes = λ e. cc; lines_movements = λ e. cc; unread_holders = tt; unread_codes = tt; unread_movements = tt; unread_guarantees = tt; unread_lines = tt }
apart Grown2 = record { meta = λ e. cc; holders = λ e. cc; codes = λ e. cc; movements = λ e. cc; lines = λ e. cc; lines_meta = λ e. cc; lines_holders = λ e. cc; lines_codes = λ e. cc; lines_movements = λ e. cc; unread_holders = λ e. cc; unread_codes = λ e. cc; unread_movements = λ e. cc; unread_guarantees = λ e. cc; unread_lines = λ e. cc }
apart Made3 = record { meta = λ e. cc; holders = λ e. cc; codes = λ e. cc; movements = λ e. cc; lines = λ e. cc; lines_meta = λ e. cc; lines_holders = λ e. cc; lines_codes = λ e. cc; lines_movements = λ e. cc; unread_holders = tt; unread_codes = tt; unread_movements = tt; unread_guarantees = tt; unread_lines = tt }
apart Grown3From2 = record { meta = λ e. cc; holders = λ e. cc; codes = λ e. cc; movements = λ e. cc; lines = λ e. cc; lines_meta = λ e. cc; lines_holders = λ e. cc; lines_codes = λ e. cc; lines_movements = λ e. cc; unread_holders = λ e. cc; unread_codes = λ e. cc; unread_movements = λ e. cc; unread_guarantees = λ e. cc; unread_lines = λ e. cc }
apart Grown3From1 = record { meta = λ e. cc; holders = λ e. cc; codes = λ e. cc; movements = λ e. cc; lines = λ e. cc; lines_meta = λ e. cc; lines_holders = λ e. cc; lines_codes = λ e. cc; lines_movements = λ e. cc; unread_holders = (λ e. cc, λ e. cc); unread_codes = (λ e. cc, λ e. cc); unread_movements = (λ e. cc, λ e. cc); unread_guarantees = (λ e. cc, λ e. cc); unread_lines = (λ e. cc, λ e. cc) }

-- which trees are not this one, and so are as they were
record AreKept (l : Layout) (tree : ℕ) (old new : Trees) : Type 0 where
  meta : 0 ≢ tree → new 0 ≡ old 0
  holders : 1 ≢ tree → new 1 ≡ old 1
  codes : 2 ≢ tree → new 2 ≡ old 2
  movements : 4 ≢ tree → new 4 ≡ old 4
  guarantees : guarantees_tree l ≢ tree → new (guarantees_tree l) ≡ old (guarantees_tree l)
  lines : lines_tree l ≢ tree → new (lines_tree l) ≡ old (lines_tree l)
  unread : IsApart l tree → AreUnreadKept l old new

kept : (l : Layout) (tree : ℕ) (old new : Trees) → AreOthersKept (schema_of l) tree old new → AreKept l tree old new
kept Made1 tree old new others = record {
  meta = others.0;
  holders = others.1.0;
  codes = others.1.1.0;
  movements = others.1.1.1.0;
  guarantees = others.1.1.1.1.0;
  lines = others.1.1.1.1.1.0;
  unread = λ _. tt;
}
kept Made2 tree old new others = record {
  meta = others.0;
  holders = others.1.0;
  codes = others.1.1.0;
  movements = others.1.1.1.0;
  guarantees = others.1.1.1.1.0;
  lines = others.1.1.1.1.1.0;
  unread = λ _. tt;
}
kept Grown2 tree old new others = record {
  meta = others.0;
  holders = others.1.0;
  codes = others.1.1.0;
  movements = others.1.1.1.0;
  guarantees = others.1.1.1.1.1.1.0;
  lines = others.1.1.1.1.1.0;
  unread = others.1.1.1.1.0;
}
kept Made3 tree old new others = record {
  meta = others.0;
  holders = others.1.0;
  codes = others.1.1.0;
  movements = others.1.1.1.0;
  guarantees = others.1.1.1.1.0;
  lines = others.1.1.1.1.1.0;
  unread = λ _. tt;
}
kept Grown3From2 tree old new others = record {
  meta = others.0;
  holders = others.1.0;
  codes = others.1.1.0;
  movements = others.1.1.1.0;
  guarantees = others.1.1.1.1.0;
  lines = others.1.1.1.1.1.1.0;
  unread = others.1.1.1.1.1.0;
}
kept Grown3From1 tree old new others = record {
  meta = others.0;
  holders = others.1.0;
  codes = others.1.1.0;
  movements = others.1.1.1.0;
  guarantees = others.1.1.1.1.1.1.0;
  lines = others.1.1.1.1.1.1.1.0;
  unread = λ is. (others.1.1.1.1.0 is.0, others.1.1.1.1.1.0 is.1);
}

-- a table has these rows now, in any order, and they are typed
record Now {R : Type 0} (ty : Typing R) (rows : List R) (trees : Trees) : Type 0 where
  same : IsPermutation rows (typed_rows ty trees)
  typed : AreTyped ty trees

still : {R : Type 0} (ty : Typing R) (old new : Trees) → AreTyped ty old → new ty.table.tree ≡ old ty.table.tree
    → Now ty (typed_rows ty old) new
still ty old new typed is = record { same = rows_still ty old new is; typed = typed_still ty old new is typed }

-- the rows of guarantees without the amounts in use are those with them, without these
pub plain_rows : (l : Layout) (trees : Trees) → typed_rows (guarantee_typing l) trees ≡ map without_amount (typed_rows (kept_typing l) trees)
plain_rows l trees = go (trees (guarantees_tree l))
  where
    go : (rows : List Row) → map (row_of (guarantee_typing l)) rows ≡ map without_amount (map (row_of (kept_typing l)) rows)
    go [] = refl
    go (r ∷ rows) = ap (λ k. row_of (guarantee_typing l) r ∷ k) (go rows)

pub plain_typed : (l : Layout) (trees : Trees) → AreTyped (kept_typing l) trees → AreTyped (guarantee_typing l) trees
plain_typed l trees typed = record {
  ids = typed.ids;
  cells = all_weaker (IsTypedRow (kept_typing l)) (IsTypedRow (guarantee_typing l)) (λ r is. ap (take 6) is) (trees (guarantees_tree l)) typed.cells;
}

-- all of them, each as it is now
assembled : (l : Layout) (f : Tables → Tables) (old new : State)
    → (f (tables_in l old.now.trees)).version ≡ (tables_in l old.now.trees).version
    → (f (tables_in l old.now.trees)).country ≡ (tables_in l old.now.trees).country
    → typed_rows meta_typing new.now.trees ≡ typed_rows meta_typing old.now.trees → AreTyped meta_typing new.now.trees
    → Now holder_typing (f (tables_in l old.now.trees)).holders new.now.trees
    → Now (guarantee_typing l) (f (tables_in l old.now.trees)).guarantees new.now.trees
    → (KeepsUse l → Now (kept_typing l) (f (tables_in l old.now.trees)).kept new.now.trees)
    → Now code_typing (f (tables_in l old.now.trees)).codes new.now.trees
    → Now movement_typing (f (tables_in l old.now.trees)).movements new.now.trees
    → Now (line_typing l) (f (tables_in l old.now.trees)).lines new.now.trees
    → new.now.schema ≡ schema_of l → IsDatabase new.now → AreUnreadKept l old.now.trees new.now.trees → HasTables l f old new
assembled l f old new version country office meta holders guarantees kept codes movements lines schema sound unread = record {
  same = record {
    version = sym version;
    country = ap country_in office ∙ sym country;
    holders = holders.same;
    guarantees = guarantees.same;
    kept = λ keeps. (kept (subst (λ v. version_with_amounts ≤ v) version keeps)).same;
    codes = codes.same;
    movements = movements.same;
    lines = lines.same;
  };
  typed = record {
    meta = meta;
    holders = holders.typed;
    guarantees = guarantees.typed;
    kept = λ keeps. (kept keeps).typed;
    codes = codes.typed;
    movements = movements.typed;
    lines = lines.typed;
  };
  office = office;
  listed = λ _. listed_there l new.now schema sound;
  schema = λ _. schema;
  unread = unread;
}

module _ (l : Layout) (old new : State) (has : HasSchema old (schema_of l)) (typed : AreAllTyped l old.now.trees) where
  abbrev a : Trees
  a = old.now.trees

  abbrev b : Trees
  b = new.now.trees

  pub holders_turned : (f : List HolderRow → List HolderRow) → Turns holder_typing (schema_of l) f old new
      → HasTables l (λ t. record t { holders = f t.holders }) old new
  holders_turned f turns =
      let now = turns has typed.holders in
      let rest = kept l 1 a b now.others in
      assembled l (λ t. record t { holders = f t.holders }) old new refl refl (office_still a b (rest.meta (λ e. cc)))
      (typed_still meta_typing a b (rest.meta (λ e. cc)) typed.meta)
      (record { same = now.same; typed = now.typed })
      (still (guarantee_typing l) a b typed.guarantees (rest.guarantees (apart l).holders))
      (λ keeps. still (kept_typing l) a b (typed.kept keeps) (rest.guarantees (apart l).holders))
      (still code_typing a b typed.codes (rest.codes (λ e. cc)))
      (still movement_typing a b typed.movements (rest.movements (λ e. cc)))
      (still (line_typing l) a b typed.lines (rest.lines (apart l).lines_holders))
      now.schema now.sound (rest.unread (apart l).unread_holders)

  -- the guarantees: with the amounts in use, and so without them
  pub kept_now : (f : List (Keyed Kept) → List (Keyed Kept)) (g : List (Keyed Guarantee) → List (Keyed Guarantee))
      → ((ks : List (Keyed Kept)) → g (map without_amount ks) ≡ map without_amount (f ks))
      → HasNow (kept_typing l) (schema_of l) (f (typed_rows (kept_typing l) old.now.trees)) old.now new.now
      → HasTables l (λ t. record t { guarantees = g t.guarantees; kept = f t.kept }) old new
  kept_now f g plainly now =
      let rest = kept l (guarantees_tree l) a b now.others in
      let rows = typed_rows (kept_typing l) a in
      assembled l (λ t. record t { guarantees = g t.guarantees; kept = f t.kept }) old new refl refl
      (office_still a b (rest.meta (λ e. (apart l).meta (sym e))))
      (typed_still meta_typing a b (rest.meta (λ e. (apart l).meta (sym e))) typed.meta)
      (still holder_typing a b typed.holders (rest.holders (λ e. (apart l).holders (sym e))))
      (record {
        same = subst₂ IsPermutation (sym (ap g (plain_rows l a) ∙ plainly rows)) (sym (plain_rows l b)) (IsPermutation-map without_amount _ _ now.same);
        typed = plain_typed l b now.typed;
      })
      (λ keeps. record { same = now.same; typed = now.typed })
      (still code_typing a b typed.codes (rest.codes (λ e. (apart l).codes (sym e))))
      (still movement_typing a b typed.movements (rest.movements (λ e. (apart l).movements (sym e))))
      (still (line_typing l) a b typed.lines (rest.lines (λ e. (apart l).lines (sym e))))
      now.schema now.sound (rest.unread (apart l).unread_guarantees)

  pub kept_turned : KeepsUse l → (f : List (Keyed Kept) → List (Keyed Kept)) (g : List (Keyed Guarantee) → List (Keyed Guarantee))
      → ((ks : List (Keyed Kept)) → g (map without_amount ks) ≡ map without_amount (f ks)) → Turns (kept_typing l) (schema_of l) f old new
      → HasTables l (λ t. record t { guarantees = g t.guarantees; kept = f t.kept }) old new
  kept_turned keeps f g plainly turns = kept_now f g plainly (turns has (typed.kept keeps))

  pub codes_turned : (f : List (Keyed (List ℕ)) → List (Keyed (List ℕ))) → Turns code_typing (schema_of l) f old new
      → HasTables l (λ t. record t { codes = f t.codes }) old new
  codes_turned f turns =
      let now = turns has typed.codes in
      let rest = kept l 2 a b now.others in
      assembled l (λ t. record t { codes = f t.codes }) old new refl refl (office_still a b (rest.meta (λ e. cc)))
      (typed_still meta_typing a b (rest.meta (λ e. cc)) typed.meta)
      (still holder_typing a b typed.holders (rest.holders (λ e. cc)))
      (still (guarantee_typing l) a b typed.guarantees (rest.guarantees (apart l).codes))
      (λ keeps. still (kept_typing l) a b (typed.kept keeps) (rest.guarantees (apart l).codes))
      (record { same = now.same; typed = now.typed })
      (still movement_typing a b typed.movements (rest.movements (λ e. cc)))
      (still (line_typing l) a b typed.lines (rest.lines (apart l).lines_codes))
      now.schema now.sound (rest.unread (apart l).unread_codes)

  pub movements_turned : (f : List (Keyed Movement) → List (Keyed Movement)) → Turns movement_typing (schema_of l) f old new
      → HasTables l (λ t. record t { movements = f t.movements }) old new
  movements_turned f turns =
      let now = turns has typed.movements in
      let rest = kept l 4 a b now.others in
      assembled l (λ t. record t { movements = f t.movements }) old new refl refl (office_still a b (rest.meta (λ e. cc)))
      (typed_still meta_typing a b (rest.meta (λ e. cc)) typed.meta)
      (still holder_typing a b typed.holders (rest.holders (λ e. cc)))
      (still (guarantee_typing l) a b typed.guarantees (rest.guarantees (apart l).movements))
      (λ keeps. still (kept_typing l) a b (typed.kept keeps) (rest.guarantees (apart l).movements))
      (still code_typing a b typed.codes (rest.codes (λ e. cc)))
      (record { same = now.same; typed = now.typed })
      (still (line_typing l) a b typed.lines (rest.lines (apart l).lines_movements))
      now.schema now.sound (rest.unread (apart l).unread_movements)

  pub lines_turned : (f : List (Keyed LineCells) → List (Keyed LineCells)) → Turns (line_typing l) (schema_of l) f old new
      → HasTables l (λ t. record t { lines = f t.lines }) old new
  lines_turned f turns =
      let now = turns has typed.lines in
      let rest = kept l (lines_tree l) a b now.others in
      assembled l (λ t. record t { lines = f t.lines }) old new refl refl (office_still a b (rest.meta (λ e. (apart l).lines_meta (sym e))))
      (typed_still meta_typing a b (rest.meta (λ e. (apart l).lines_meta (sym e))) typed.meta)
      (still holder_typing a b typed.holders (rest.holders (λ e. (apart l).lines_holders (sym e))))
      (still (guarantee_typing l) a b typed.guarantees (rest.guarantees (apart l).lines))
      (λ keeps. still (kept_typing l) a b (typed.kept keeps) (rest.guarantees (apart l).lines))
      (still code_typing a b typed.codes (rest.codes (λ e. (apart l).lines_codes (sym e))))
      (still movement_typing a b typed.movements (rest.movements (λ e. (apart l).lines_movements (sym e))))
      (record { same = now.same; typed = now.typed })
      now.schema now.sound (rest.unread (apart l).unread_lines)
