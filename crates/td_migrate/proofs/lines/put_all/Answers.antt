use Rattle.std.proofs.Common.{◌∙◌, ◌<◌, ◌≡◌, List, Some, ap, map, refl, subst, sym}
use Rattle.std.specs.Prelude.{filter}
use Rattle.std.proofs.lemmas.List.{map-id}
use Rattle.sqlite.specs.Held.{state}
use Rattle.sqlite.specs.State.{State, HasCleanDisk}
use Rattle.sqlite_trees.specs.Tree.{Trees}
use Rattle.typed_sql.proofs.OnlyRead.{stays_on}
use Rattle.typed_sql.specs.Typed.{typed_rows}
use Rattle.typed_sql.specs.Writing.{AreOthersKept}
use Rattle.td_table_model.specs.Tables.{Keyed, LineCells, version_with_amounts}
use Rattle.td_schema.specs.Layouts.{grown, schema_of}
use Rattle.td_schema.specs.declared.layout.Layout.{Layout}
use Rattle.td_store_audit_rows.specs.NextHolder.{IsNextHolder}
use Rattle.td_store_audit_rows.specs.declared.holders.RawHolder.{RawHolder}
use Rattle.td_store_rows.specs.Columns.{line_typing}
use Rattle.td_store_rows.specs.Places.{is_within}
use Rattle.td_store_rows.specs.StoreReads.{IsOfVersion}
use Rattle.td_migrate.specs.LinesMoved.{AreLinesTyped, PutsLines}
use Rattle.td_migrate.specs.Put.{KeepTheRules}
use Rattle.td_migrate.proofs.EachHolder.{lines_all, lines_asked, lines_none}
use Rattle.td_migrate.proofs.Older.{lines_beside}
use Rattle.td_migrate.proofs.Putting.{HasPut, nothing_put}
use Rattle.td_migrate.proofs.Walking.{all_put, holder_put, of_holder, upto}
use Rattle.td_migrate.proofs.lines.put_all.Goals as goal

abbrev At : Layout → Type 0
At = IsOfVersion version_with_amounts

-- a line is put as it stands
abbrev as_it_is : Trees → Keyed LineCells → Keyed LineCells
as_it_is trees r = r

still : (l : Layout) → At l → (x y : Trees) → AreOthersKept (schema_of (grown l)) (line_typing (grown l)).table.tree x y → (rows : List (Keyed LineCells))
    → map (as_it_is y) rows ≡ map (as_it_is x) rows
still l at x y others rows = refl

pub holders-init : goal.holders-init
holders-init g c = (
  refl,
  nothing_put At line_typing KeepTheRules (upto At line_typing line_typing lines_beside as_it_is still 0) (state g.S.Store c.args.tx.now.conn.now)
      (λ l at x keep. ap (map (as_it_is x)) (lines_none l x keep)),
)

pub holders-preserved : goal.holders-preserved
holders-preserved g c = (
  c.put_below.ensures.same_reference ∙ c.holder_above.ensures.same_reference ∙ c.holders.invariant.0,
  subst (λ n. HasPut At line_typing KeepTheRules (upto At line_typing line_typing lines_beside as_it_is still n) a d) (sym c.number-number.ensures.value)
      (holder_put At line_typing line_typing lines_beside as_it_is still AreLinesTyped c.holders.number c.in_ok-end.end raw above a b m d
      (lines_asked c.holders.number c.in_ok-end.end raw c.in_ok-end.ensures) c.holders.invariant.1 c.in_ok-raw.ensures.reads found c.in_ok-put_below.ensures.within puts),
)
  where
    a : State
    a = state g.S.Store c.args.tx.now.conn.now

    b : State
    b = state g.S.Store c.holders.tx.conn.now

    m : State
    m = state g.S.Store c.holder_above.new.tx.conn.now

    d : State
    d = state g.S.Store c.put_below.new.tx.conn.now

    raw : RawHolder
    raw = c.in-Some.raw

    above : c.holders.number < raw.holder
    above = rw c.in-Some.is at c.in_ok-raw.ensures.above

    found : HasCleanDisk m → IsNextHolder c.holders.number b (Some raw)
    found clean = subst (IsNextHolder c.holders.number b) c.in-Some.is (c.in_ok-raw.ensures.found clean)

    puts : HasCleanDisk d → PutsLines AreLinesTyped (of_holder At line_typing line_typing lines_beside as_it_is still raw.holder c.in_ok-end.end) m d
    puts clean =
        subst (λ (same : List (Keyed LineCells) → List (Keyed LineCells)). PutsLines AreLinesTyped (λ l x. same (filter (is_within raw.holder 0 c.in_ok-end.end) (typed_rows (line_typing l) x))) m d)
        (λ i rows. sym (map-id rows) i) (c.in_ok-put_below.ensures.put clean)

pub returns-clause-put : goal.returns-clause-put
returns-clause-put g c clean =
    let a : State = state g.S.Store c.args.tx.now.conn.now in
    let m : State = state g.S.Store c.holder_above.new.tx.conn.now in
    subst (λ (same : List (Keyed LineCells) → List (Keyed LineCells)). PutsLines KeepTheRules (λ l x. same (typed_rows (line_typing l) x)) a m)
    (λ i rows. map-id rows i)
    (all_put At line_typing line_typing lines_beside as_it_is still c.holders.number a (state g.S.Store c.holders.tx.conn.now) m
    (λ l at. lines_all c.holders.number l) c.holders.invariant.1 c.in_ok-raw.ensures.reads
    (λ clean. subst (IsNextHolder c.holders.number (state g.S.Store c.holders.tx.conn.now)) c.in_default.is (c.in_ok-raw.ensures.found clean)) clean)

pub returns-clause-within : goal.returns-clause-within
returns-clause-within g c = stays_on c.holders.invariant.1.within c.in_ok-raw.ensures.reads.within
