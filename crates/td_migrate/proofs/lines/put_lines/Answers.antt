use Rattle.std.proofs.Common.{◌∙◌, ◌≡◌, ◌+◌, [], ◌∷◌, ◌++◌, ap, get_or, map, refl, sym, subst, take}
use Rattle.std.proofs.lemmas.List.{take_all, take_more, map-append}
use Rattle.sqlite.specs.Held.{state}
use Rattle.sqlite.specs.State.{State, HasCleanDisk}
use Rattle.td_schema.specs.Layouts.{grown, schema_of}
use Rattle.td_table_model.specs.Tables.{version_with_amounts}
use Rattle.td_store_rows.specs.Columns.{line_typing}
use Rattle.td_store_rows.specs.LineTable.{line_row_of}
use Rattle.td_store_rows.specs.StoreReads.{IsOfVersion}
use Rattle.td_migrate.specs.LinesMoved.{PutsLines}
use Rattle.td_migrate.specs.Put.{IsAnyFile}
use Rattle.td_migrate.proofs.Putting.{HasPut, nothing_put, one_put, put_then}
use Rattle.td_migrate.proofs.Second.{second_layout}
use Rattle.td_migrate.proofs.lines.put_lines.Goals as goal

pub lines-init : goal.lines-init
lines-init g c =
    (refl, nothing_put (IsOfVersion version_with_amounts) line_typing IsAnyFile (λ l trees. []) (state g.S.Store c.args.tx.now.conn.now) (λ l at x any. refl))

pub lines-preserved : goal.lines-preserved
lines-preserved g c = (c.insert_line.ensures.same_reference ∙ c.lines.invariant.0, more)
  where
    a : State
    a = state g.S.Store c.args.tx.now.conn.now

    b : State
    b = state g.S.Store c.lines.tx.conn.now

    d : State
    d = state g.S.Store c.insert_line.new.tx.conn.now

    split : map line_row_of (take (c.lines.line-index + 1) c.args.lines.now)
        ≡ map line_row_of (take c.lines.line-index c.args.lines.now) ++ line_row_of c.line-item.result ∷ []
    split = ap (map line_row_of) (take_more c.args.lines.now c.lines.line-index _ c.lines-test.true)
        ∙ map-append line_row_of (take c.lines.line-index c.args.lines.now) (get_or c.args.lines.now c.lines.line-index _ ∷ [])
        ∙ ap (λ r. map line_row_of (take c.lines.line-index c.args.lines.now) ++ line_row_of r ∷ []) (sym c.line-item.is)

    one : HasCleanDisk d → PutsLines IsAnyFile (λ l trees. line_row_of c.line-item.result ∷ []) b d
    one clean l at has typed any =
        one_put (line_typing (grown l)) (schema_of (grown l)) (line_row_of c.line-item.result) b.now d.now
        (c.in_ok-insert_line.ensures.inserted clean (grown l) (second_layout l at).more (λ _. has) typed)

    more : HasPut (IsOfVersion version_with_amounts) line_typing IsAnyFile (λ l trees. map line_row_of (take (c.lines.line-index + 1) c.args.lines.now)) a d
    more =
        subst (λ lines. HasPut (IsOfVersion version_with_amounts) line_typing IsAnyFile (λ l trees. lines) a d) (sym split)
        (put_then (IsOfVersion version_with_amounts) line_typing IsAnyFile IsAnyFile (λ l trees. map line_row_of (take c.lines.line-index c.args.lines.now))
        (λ l trees. line_row_of c.line-item.result ∷ []) a b d (λ l at x y others any. (tt, refl)) c.lines.invariant.1 c.in_ok-insert_line.ensures.within one)

pub returns-clause-put : goal.returns-clause-put
returns-clause-put g c clean = rw (take_all c.lines.line-index c.args.lines.now c.lines-test.false) at (c.lines.invariant.1.put clean)
