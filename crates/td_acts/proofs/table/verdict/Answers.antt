use Rattle.std.proofs.Common.{w64}
use Rattle.std.proofs.lemmas.Int.{to_z-of_z}
use Rattle.std.proofs.lemmas.Result.{IfOk-weaker}
use Rattle.td_commands.specs.Commands.{need_of}
use Rattle.td_acts.specs.Deciding.{IsVerdict}
use Rattle.td_acts.proofs.Told.{loaded_again}
use Rattle.td_acts.proofs.table.verdict.Goals as goal

pub returns : goal.returns
returns c =
    let copy = c.in_ok-copy.copy in
    let same = c.in_ok-copy.ensures in
    let command = c.args.command.now in
    IfOk-weaker c.decide.result (IsVerdict copy c.args.at command) (IsVerdict c.args.loaded.now c.args.at command)
    (λ v is account loaded. is account (loaded_again account (need_of command) c.args.loaded.now copy same.country same.holder same.movements same.listed same.guarantees loaded)) (rw (to_z-of_z w64 c.args.at c.ranges.at) at c.decide.ensures)
