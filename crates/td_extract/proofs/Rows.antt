-- Rows that are put into the tables of a store's file, one list after another.
use Rattle.std.proofs.Common.{true, [], ◌++◌, map, refl, subst, arith, IsPermutation}
use Rattle.std.proofs.lemmas.List.{map-append}
use Rattle.std.proofs.lemmas.List.Sorted.{IsPermutation-append, IsPermutation-map, IsPermutation-refl}
use Rattle.sqlite.specs.State.{State, HasCleanDisk}
use Rattle.td_table_model.specs.Changes.{HaveSameRows}
use Rattle.td_table_model.specs.Tables.{Tables, without_amount}
use Rattle.typed_sql.specs.Reading.{StaysInside}
use Rattle.typed_sql.proofs.OnlyRead.{stays_nothing, stays_on}
use Rattle.td_store_rows.specs.StoreTables.{TurnsTables}
use Rattle.td_store_rows.proofs.Chained.{RespectsRows, append_respects, turned_as, turned_nothing, turned_then}
use Rattle.td_extract.specs.Copied.{Rows, no_rows, with_rows}
use Rattle.td_extract.proofs.Lists.{before_none, more_there}

-- the same rows in each table, in any order
pub record AreSame (x y : Rows) : Type 0 where
  pub holders : IsPermutation x.holders y.holders
  pub kept : IsPermutation x.kept y.kept
  pub codes : IsPermutation x.codes y.codes
  pub movements : IsPermutation x.movements y.movements
  pub lines : IsPermutation x.lines y.lines

-- the rows of both
abbrev pub both : Rows → Rows → Rows
both x y = record {
  holders = x.holders ++ y.holders;
  kept = x.kept ++ y.kept;
  codes = x.codes ++ y.codes;
  movements = x.movements ++ y.movements;
  lines = x.lines ++ y.lines;
}

pub same_self : (x : Rows) → AreSame x x
same_self x = record {
  holders = IsPermutation-refl x.holders;
  kept = IsPermutation-refl x.kept;
  codes = IsPermutation-refl x.codes;
  movements = IsPermutation-refl x.movements;
  lines = IsPermutation-refl x.lines;
}

pub with_respects : (r : Rows) → RespectsRows (with_rows r)
with_respects r t u same = record {
  version = same.version;
  country = same.country;
  holders = append_respects r.holders t.holders u.holders same.holders;
  guarantees = append_respects (map without_amount r.kept) t.guarantees u.guarantees same.guarantees;
  kept = λ keeps. append_respects r.kept t.kept u.kept (same.kept keeps);
  codes = append_respects r.codes t.codes u.codes same.codes;
  movements = append_respects r.movements t.movements u.movements same.movements;
  lines = append_respects r.lines t.lines u.lines same.lines;
}

-- rows that are put after others, as those of both
with_both : (r s u : Rows) → AreSame (both r s) u → (t : Tables) → HaveSameRows (with_rows u t) (with_rows s (with_rows r t))
with_both r s u same t = record {
  version = refl;
  country = refl;
  holders = more_there r.holders s.holders u.holders t.holders same.holders;
  guarantees = more_there (map without_amount r.kept) (map without_amount s.kept) (map without_amount u.kept) t.guarantees
      (subst (λ l. IsPermutation l (map without_amount u.kept)) (map-append without_amount r.kept s.kept) (IsPermutation-map without_amount (r.kept ++ s.kept) u.kept same.kept));
  kept = λ keeps. more_there r.kept s.kept u.kept t.kept same.kept;
  codes = more_there r.codes s.codes u.codes t.codes same.codes;
  movements = more_there r.movements s.movements u.movements t.movements same.movements;
  lines = more_there r.lines s.lines u.lines t.lines same.lines;
}

-- the same rows put in another order
with_same : (r u : Rows) → AreSame u r → (t : Tables) → HaveSameRows (with_rows u t) (with_rows r t)
with_same r u same t = record {
  version = refl;
  country = refl;
  holders = IsPermutation-append u.holders r.holders t.holders t.holders same.holders (IsPermutation-refl t.holders);
  guarantees = IsPermutation-append (map without_amount u.kept) (map without_amount r.kept) t.guarantees t.guarantees
      (IsPermutation-map without_amount u.kept r.kept same.kept) (IsPermutation-refl t.guarantees);
  kept = λ keeps. IsPermutation-append u.kept r.kept t.kept t.kept same.kept (IsPermutation-refl t.kept);
  codes = IsPermutation-append u.codes r.codes t.codes t.codes same.codes (IsPermutation-refl t.codes);
  movements = IsPermutation-append u.movements r.movements t.movements t.movements same.movements (IsPermutation-refl t.movements);
  lines = IsPermutation-append u.lines r.lines t.lines t.lines same.lines (IsPermutation-refl t.lines);
}

-- no rows put leave the tables
with_none : (r : Rows) → AreSame no_rows r → (t : Tables) → HaveSameRows (with_rows r t) t
with_none r same t = record {
  version = refl;
  country = refl;
  holders = before_none r.holders t.holders same.holders;
  guarantees = before_none (map without_amount r.kept) t.guarantees (IsPermutation-map without_amount [] r.kept same.kept);
  kept = λ keeps. before_none r.kept t.kept same.kept;
  codes = before_none r.codes t.codes same.codes;
  movements = before_none r.movements t.movements same.movements;
  lines = before_none r.lines t.lines same.lines;
}

pub turned_none : (r : Rows) → AreSame no_rows r → (a : State) → TurnsTables (with_rows r) a a
turned_none r same a = turned_nothing (with_rows r) (with_none r same) a

pub turned_both : (r s u : Rows) → AreSame (both r s) u → (a b d : State) → TurnsTables (with_rows r) a b → TurnsTables (with_rows s) b d → TurnsTables (with_rows u) a d
turned_both r s u same a b d first second =
    turned_as (λ t. with_rows s (with_rows r t)) (with_rows u) a d (with_both r s u same)
    (turned_then (with_rows r) (with_rows s) (with_respects s) a b d first second)

pub turned_same : (r u : Rows) → AreSame u r → (a b : State) → TurnsTables (with_rows r) a b → TurnsTables (with_rows u) a b
turned_same r u same a b turns = turned_as (with_rows r) (with_rows u) a b (with_same r u same) turns

-- what statements one after another have put, each well
pub record HasPut (r : Rows) (old new : State) : Type 0 where
  pub tables : HasCleanDisk new → TurnsTables (with_rows r) old new
  pub within : StaysInside true old new

pub nothing_put : (a : State) → HasPut no_rows a a
nothing_put a = record { tables = λ clean. turned_none no_rows (same_self no_rows) a; within = stays_nothing }

pub put_then : (r s u : Rows) → AreSame (both r s) u → (a b d : State) → HasPut r a b → HasPut s b d → HasPut u a d
put_then r s u same a b d first second = record {
  tables = λ clean. turned_both r s u same a b d (first.tables (omega (arith, clean, second.within.survives.clean))) (second.tables clean);
  within = stays_on first.within second.within;
}
