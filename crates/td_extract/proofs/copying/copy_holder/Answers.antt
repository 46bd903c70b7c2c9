use Rattle.std.proofs.Common.{◌+◌, [], ◌∷◌, arith, refl, subst}
use Rattle.sqlite.specs.Held.{state}
use Rattle.sqlite.specs.State.{State, HasCleanDisk}
use Rattle.typed_sql.proofs.Leaving.{on_ok}
use Rattle.typed_sql.proofs.OnlyRead.{stays_on}
use Rattle.td_model.specs.declared.holder_row.HolderRow.{HolderRow}
use Rattle.td_table_model.specs.Tables.{Tables}
use Rattle.td_store_rows.proofs.StoreReads.{reads_on}
use Rattle.td_store_rows.proofs.Turned.{holders_turned}
use Rattle.td_extract.specs.Copied.{Copies, Rows, guarantees_within, movements_within, no_rows, of_row}
use Rattle.td_extract.proofs.Copied.{copied_before, copied_both}
use Rattle.td_extract.proofs.Picked.{whole_holder, with_holder}
use Rattle.td_extract.proofs.copying.copy_holder.Goals as goal

pub returns-clause-copied : goal.returns-clause-copied
returns-clause-copied g c clean clean_to =
    on_ok c.copy_movements.result
    (λ moved.
    copied_both own counted (of_row row) a (whole_holder a row) o q r
    (copied_both (λ t. record no_rows { holders = row ∷ [] }) guarantees own a (with_holder a row) o p q put
    (subst (λ n. Copies (guarantees_within row.holder 0 n) a p q) c.in_ok-guarantees.ensures (c.in_ok-copy_guarantees.ensures.copied clean_b clean_q)))
    (copied_before counted a b q r (c.in_ok-copy_guarantees.ensures.reads.still clean_b refl)
    (subst (λ n. Copies (movements_within row.holder 0 n) b q r) c.in_ok-movements.ensures moved)))
    (c.copy_movements.ensures.copied clean clean_to)
  where
    row : HolderRow
    row = c.args.row.now

    guarantees : Tables → Rows
    guarantees = guarantees_within row.holder 0 (row.grn_count + 1)

    counted : Tables → Rows
    counted = movements_within row.holder 0 (row.mrn_count + 1)

    own : Tables → Rows
    own t = record (guarantees t) { holders = row ∷ [] }

    a : State
    a = state g.S.Store c.args.from.now.conn.now

    b : State
    b = state g.S.Store c.copy_guarantees.new.from.conn.now

    o : State
    o = state g.T.Store c.args.to.now.conn.now

    p : State
    p = state g.T.Store c.insert_holder.new.tx.conn.now

    q : State
    q = state g.T.Store c.copy_guarantees.new.to.conn.now

    r : State
    r = state g.T.Store c.copy_movements.new.to.conn.now

    clean_b : HasCleanDisk b
    clean_b = omega (arith, clean, c.copy_movements.ensures.reads.within.survives.clean)

    clean_q : HasCleanDisk q
    clean_q = omega (arith, clean_to, c.copy_movements.ensures.within.survives.clean)

    clean_p : HasCleanDisk p
    clean_p = omega (arith, clean_q, c.copy_guarantees.ensures.within.survives.clean)

    put : Copies (λ t. record no_rows { holders = row ∷ [] }) a o p
    put content holds l newest has typed = holders_turned l o p has typed (λ rows. row ∷ rows) (c.in_ok-insert_holder.ensures.inserted clean_p l)

pub returns-clause-reads : goal.returns-clause-reads
returns-clause-reads g c = reads_on c.in_ok-copy_guarantees.ensures.reads c.copy_movements.ensures.reads

pub returns-clause-within : goal.returns-clause-within
returns-clause-within g c = stays_on (stays_on c.in_ok-insert_holder.ensures.within c.in_ok-copy_guarantees.ensures.within) c.copy_movements.ensures.within
