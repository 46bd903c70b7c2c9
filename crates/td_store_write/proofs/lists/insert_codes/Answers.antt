use Rattle.std.proofs.Common.{◌∙◌, ℕ, ◌+◌, List, ◌∷◌, ◌++◌, map, take, refl, sym, subst, IsPermutation}
use Rattle.std.proofs.lemmas.List.{take_all}
use Rattle.sqlite.specs.Held.{state}
use Rattle.sqlite.specs.State.{State}
use Rattle.td_table_model.specs.Tables.{Tables, Keyed, code_row}
use Rattle.td_store_rows.proofs.Chained.{codes_respect, codes_same, cons_respects, same_rows}
use Rattle.td_store_rows.proofs.Turned.{codes_turned}
use Rattle.td_store_write.proofs.Written.{HasWritten, next_put, nothing_written, written_as, written_then}
use Rattle.td_store_write.proofs.lists.insert_codes.Goals as goal

pub codes-init : goal.codes-init
codes-init g c = (refl, nothing_written (λ t. record t { codes = map (code_row c.args.holder c.args.serial) (take 0 c.args.codes.now) ++ t.codes }) same_rows (state g.S.Store c.args.tx.now.conn.now))

pub codes-preserved : goal.codes-preserved
codes-preserved g c = (c.insert_code.ensures.same_reference ∙ c.codes.invariant.0, more)
  where
    a : State
    a = state g.S.Store c.args.tx.now.conn.now

    b : State
    b = state g.S.Store c.codes.tx.conn.now

    d : State
    d = state g.S.Store c.insert_code.new.tx.conn.now

    row : List ℕ → Keyed (List ℕ)
    row = code_row c.args.holder c.args.serial

    first : Tables → Tables
    first t = record t { codes = map row (take c.codes.code-index c.args.codes.now) ++ t.codes }

    next : Tables → Tables
    next t = record t { codes = row c.code-item.result ∷ t.codes }

    inserted : HasWritten next b d
    inserted = record {
      within = c.in_ok-insert_code.ensures.within;
      tables = λ clean l newest has typed. codes_turned l b d has typed (λ rows. row c.code-item.result ∷ rows) (c.in_ok-insert_code.ensures.inserted clean l);
    }

    both : HasWritten (λ t. next (first t)) a d
    both = written_then first next (codes_respect (λ rows. row c.code-item.result ∷ rows) (cons_respects (row c.code-item.result))) a b d c.codes.invariant.1 inserted

    more : HasWritten (λ t. record t { codes = map row (take (c.codes.code-index + 1) c.args.codes.now) ++ t.codes }) a d
    more = written_as (λ t. next (first t)) (λ t. record t { codes = map row (take (c.codes.code-index + 1) c.args.codes.now) ++ t.codes })
        (λ t. codes_same t t _ _ (same_rows t) (subst (λ x. IsPermutation (map row (take (c.codes.code-index + 1) c.args.codes.now) ++ t.codes) (row x ∷ (map row (take c.codes.code-index c.args.codes.now) ++ t.codes))) (sym c.code-item.is) (next_put row c.args.codes.now c.codes.code-index _ c.codes-test.true t.codes))) a d both

pub returns-clause-inserted : goal.returns-clause-inserted
returns-clause-inserted g c clean = rw (take_all c.codes.code-index c.args.codes.now c.codes-test.false) at (c.codes.invariant.1.tables clean)
