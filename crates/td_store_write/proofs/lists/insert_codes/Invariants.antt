use Rattle.std.proofs.Common.{◌≡◌, ◌++◌, map, take}
use Rattle.sqlite.specs.Held.{state}
use Rattle.td_table_model.specs.Tables.{code_row}
use Rattle.td_store_write.proofs.Written.{HasWritten}
use Rattle.td_store_write.proofs.lists.insert_codes.Given as goal

abbrev pub invariant-codes : goal.invariant-codes
invariant-codes g l =
    (l.tx.conn.ghost_name ≡ l.initial.tx.conn.ghost_name)
    × HasWritten (λ t. record t { codes = map (code_row l.holder l.serial) (take l.code-index l.codes) ++ t.codes })
    (state g.S.Store l.initial.tx.conn.now) (state g.S.Store l.tx.conn.now)
