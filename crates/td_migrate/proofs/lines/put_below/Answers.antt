use Rattle.std.proofs.Common.{◌≡◌, ◌∙◌, ◌≤◌, ap, arith, map, refl, subst, sym}
use Rattle.std.specs.Prelude.{filter}
use Rattle.std.proofs.lemmas.List.{map-id}
use Rattle.sqlite.specs.Held.{state}
use Rattle.sqlite.specs.State.{State, HasCleanDisk}
use Rattle.sqlite_trees.proofs.ListLemmas.{IsPermutation-same}
use Rattle.typed_sql.specs.Typed.{typed_rows}
use Rattle.td_table_model.specs.Tables.{Keyed, LineCells, version_with_amounts}
use Rattle.td_store_rows.specs.Columns.{line_typing}
use Rattle.td_store_rows.specs.LineTable.{line_row_of}
use Rattle.td_store_rows.specs.Places.{is_within}
use Rattle.td_store_rows.specs.StoreReads.{IsOfVersion}
use Rattle.td_migrate.specs.LinesMoved.{AreLinesTyped, PutsLines, PutsLinesWithin}
use Rattle.td_migrate.specs.Put.{IsAnyFile}
use Rattle.td_migrate.proofs.Older.{lines_beside}
use Rattle.td_migrate.proofs.Putting.{nothing_put, put_as}
use Rattle.td_migrate.proofs.Split.{range_none}
use Rattle.td_migrate.proofs.Walking.{below, range_put}
use Rattle.td_migrate.proofs.lines.put_below.Goals as goal

-- a line is put as it stands
abbrev as_it_is : Keyed LineCells → Keyed LineCells
as_it_is r = r

pub parts-init : goal.parts-init
parts-init g c = (
  omega arith,
  refl,
  nothing_put (IsOfVersion version_with_amounts) line_typing AreLinesTyped (below (IsOfVersion version_with_amounts) line_typing line_typing lines_beside as_it_is c.args.holder 0)
      (state g.S.Store c.args.tx.now.conn.now) (λ l at x typed. ap (map as_it_is) (range_none c.args.holder (typed_rows (line_typing l) x))),
)

pub parts-preserved : goal.parts-preserved
parts-preserved g c = (
  omega (arith, c.range_end-next.ensures c.parts-test.true),
  c.put_lines.ensures.same_reference ∙ c.older_within.ensures.same_reference ∙ c.parts.invariant.1,
  range_put (IsOfVersion version_with_amounts) line_typing line_typing lines_beside as_it_is c.args.holder c.parts.first c.range_end-next.result up
      (map line_row_of c.in_ok-lines.lines.items) a b m d c.parts.invariant.2 c.in_ok-lines.ensures.reads c.in_ok-lines.ensures.found
      c.in_ok-put_lines.ensures.within puts,
)
  where
    a : State
    a = state g.S.Store c.args.tx.now.conn.now

    b : State
    b = state g.S.Store c.parts.tx.conn.now

    m : State
    m = state g.S.Store c.older_within.new.tx.conn.now

    d : State
    d = state g.S.Store c.put_lines.new.tx.conn.now

    up : c.parts.first ≤ c.range_end-next.result
    up = omega (arith, c.range_end-next.ensures c.parts-test.true, c.parts-test.true)

    puts : HasCleanDisk d → PutsLines IsAnyFile (λ l trees. map as_it_is (map line_row_of c.in_ok-lines.lines.items)) m d
    puts clean =
        subst (λ rows. PutsLines IsAnyFile (λ l trees. rows) m d) (sym (map-id (map line_row_of c.in_ok-lines.lines.items)))
        (rw c.deref.ensures.value at (c.in_ok-put_lines.ensures.put clean))

pub returns-clause-put : goal.returns-clause-put
returns-clause-put g c clean =
    let a : State = state g.S.Store c.args.tx.now.conn.now in
    let d : State = state g.S.Store c.parts.tx.conn.now in
    let last : c.parts.first ≡ c.args.end = omega (arith, c.parts.invariant.0, c.parts-test.false) in
    subst (λ n. PutsLinesWithin c.args.holder n a d) last
    ((put_as (IsOfVersion version_with_amounts) line_typing AreLinesTyped AreLinesTyped (below (IsOfVersion version_with_amounts) line_typing line_typing lines_beside as_it_is c.args.holder c.parts.first)
    (λ l x. filter (is_within c.args.holder 0 c.parts.first) (typed_rows (line_typing l) x)) a d
    (λ l at x typed. (typed, IsPermutation-same _ _ (map-id (filter (is_within c.args.holder 0 c.parts.first) (typed_rows (line_typing l) x))))) c.parts.invariant.2).put clean)
