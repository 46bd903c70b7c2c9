use Rattle.std.proofs.Common.{refl}
use Rattle.sqlite.specs.Held.{state}
use Rattle.typed_sql.proofs.Leaving.{on_ok}
use Rattle.typed_sql.proofs.OnlyRead.{stays_nothing}
use Rattle.td_store_rows.specs.GuaranteeTable.{has_serial}
use Rattle.td_store_rows.specs.KeptTable.{MayChange}
use Rattle.td_store_write.specs.InUse.{MayFollow, change_at}
use Rattle.td_store_write.proofs.Changed.{added_to, taken_off}
use Rattle.td_store_write.proofs.Following.{change_left, nothing_turned, other_state}
use Rattle.td_store_write.proofs.amounts.change_one.Goals as goal

pub returns-in-Released-clause-changed : goal.returns-in-Released-clause-changed
returns-in-Released-clause-changed g c clean =
    rw c.in-Released.is (on_ok c.add_used.result (added_to c.args.holder c.args.serial c.args.cents (state g.S.Store c.args.tx.now.conn.now) (state g.S.Store c.add_used.new.tx.conn.now))
    (c.add_used.ensures.added clean))

pub returns-in-WrittenOff-clause-changed : goal.returns-in-WrittenOff-clause-changed
returns-in-WrittenOff-clause-changed g c clean =
    rw c.in-WrittenOff.is (on_ok c.take_used.result (taken_off c.args.holder c.args.serial c.args.cents (state g.S.Store c.args.tx.now.conn.now) (state g.S.Store c.take_used.new.tx.conn.now))
    (c.take_used.ensures.taken clean))

pub returns-in_default : goal.returns-in_default
returns-in_default g c = record {
  same_reference = refl;
  changed = λ clean.
      nothing_turned (λ t. MayChange (has_serial c.args.holder c.args.serial) (λ k. MayFollow c.args.status c.args.cents k.row.used) t.kept)
      (change_at c.args.status c.args.holder c.args.serial c.args.cents)
      (change_left c.args.status (other_state c.args.status c.in_default.not-Released c.in_default.not-WrittenOff) c.args.holder c.args.serial c.args.cents)
      (state g.S.Store c.args.tx.now.conn.now);
  within = stays_nothing;
}
