use Rattle.std.proofs.Common.{◌≡◌, ◌∙◌, ℕ, ◌+◌, List, ◌∷◌, ◌++◌, map, take, refl, sym, ap, subst, arith, IsPermutation}
use Rattle.std.proofs.lemmas.List.{take_all}
use Rattle.sqlite.specs.Held.{state}
use Rattle.sqlite.specs.State.{State}
use Rattle.td_movement.specs.declared.line.Line.{Line}
use Rattle.td_table_model.specs.Tables.{Tables, Keyed, LineCells, line_row, numbered}
use Rattle.td_table_model.proofs.Numbered.{length-numbered}
use Rattle.td_store_rows.proofs.Chained.{lines_respect, lines_same, cons_respects, same_rows}
use Rattle.td_store_rows.proofs.StoreReads.{newest_more_lines}
use Rattle.td_store_rows.proofs.Turned.{lines_turned}
use Rattle.td_store_write.proofs.Written.{HasWritten, next_put, nothing_written, numbered_from_one, written_as, written_then}
use Rattle.td_store_write.proofs.lists.insert_lines.Goals as goal

pub lines-init : goal.lines-init
lines-init g c = (refl, nothing_written (λ t. record t { lines = map (line_row c.args.country c.args.holder c.args.serial) (take 0 (numbered 0 c.args.lines.now)) ++ t.lines }) same_rows (state g.S.Store c.args.tx.now.conn.now))

pub lines-preserved : goal.lines-preserved
lines-preserved g c = (c.insert_line.ensures.same_reference ∙ c.lines.invariant.0, more)
  where
    a : State
    a = state g.S.Store c.args.tx.now.conn.now

    b : State
    b = state g.S.Store c.lines.tx.conn.now

    d : State
    d = state g.S.Store c.insert_line.new.tx.conn.now

    row : ℕ × Line → Keyed LineCells
    row = line_row c.args.country c.args.holder c.args.serial

    pairs : List (ℕ × Line)
    pairs = numbered 0 c.args.lines.now

    this : ℕ × Line
    this = (c.lines.at + 1, c.index-lines-at.result)

    no : c.in-Ok.no ≡ c.lines.at + 1
    no = c.in-Ok.ensures.1

    first : Tables → Tables
    first t = record t { lines = map row (take c.lines.at pairs) ++ t.lines }

    next : Tables → Tables
    next t = record t { lines = row this ∷ t.lines }

    inserted : HasWritten next b d
    inserted = record {
      within = c.in_ok-insert_line.ensures.within;
      tables = λ clean l newest has typed. lines_turned l b d has typed (λ rows. row this ∷ rows) (rw (c.unwrap_or.ensures, c.serial.ensures, no) at (c.in_ok-insert_line.ensures.inserted clean l (newest_more_lines l newest)));
    }

    both : HasWritten (λ t. next (first t)) a d
    both = written_then first next (lines_respect (λ rows. row this ∷ rows) (cons_respects (row this))) a b d c.lines.invariant.1 inserted

    more : HasWritten (λ t. record t { lines = map row (take (c.lines.at + 1) pairs) ++ t.lines }) a d
    more = written_as (λ t. next (first t)) (λ t. record t { lines = map row (take (c.lines.at + 1) pairs) ++ t.lines })
        (λ t. lines_same t t _ _ (same_rows t) (subst (λ p. IsPermutation (map row (take (c.lines.at + 1) pairs) ++ t.lines) (row p ∷ (map row (take c.lines.at pairs) ++ t.lines))) (numbered_from_one c.args.lines.now c.lines.at this _ c.lines-test.true ∙ ap (λ l. (c.lines.at + 1, l)) (sym c.index-lines-at.is)) (next_put row pairs c.lines.at this (omega (arith, length-numbered 0 c.args.lines.now, c.lines-test.true)) t.lines))) a d both

pub returns-clause-inserted : goal.returns-clause-inserted
returns-clause-inserted g c clean = rw (take_all c.lines.at (numbered 0 c.args.lines.now) (omega (arith, length-numbered 0 c.args.lines.now, c.lines-test.false))) at (c.lines.invariant.1.tables clean)
