use Rattle.std.proofs.Common.{◌∙◌, ap, map}
use Rattle.std.proofs.lemmas.List.{take_all}
use Rattle.td_store_load.specs.Loaded.{code_of}
use Rattle.td_store_load.proofs.Found.{next_put}
use Rattle.td_store_load.proofs.entries.gather_codes.Goals as goal

pub rows-preserved : goal.rows-preserved
rows-preserved c = λ order.
    next_put c.args.rows.now c.rows.row-index _ c.row-item.result c.rows-test.true c.row-item.is order c.rows.codes c.add.new.self (c.rows.invariant order) c.in_ok-add.ensures.ok

pub returns : goal.returns
returns c = record { gathered = λ order. c.rows.invariant order ∙ ap (map code_of) (take_all c.rows.row-index c.args.rows.now c.rows-test.false) }
