use Rattle.std.proofs.Common.{ap, refl, Err, w64}
use Rattle.std.proofs.lemmas.Int.{to_z-of_z}
use Rattle.td_desk.specs.declared.running.Outcome.TheVariants as outcome
use Rattle.td_http.proofs.service.reply_to_command.Goals as goal

pub returns-in-Ok-clause-handled : goal.returns-in-Ok-clause-handled
returns-in-Ok-clause-handled g c = λ clean.
    let told = rw (to_z-of_z w64 c.args.at c.ranges.at) at (c.in-Ok.ensures.answered clean) in
    (outcome.Said told.0, told.2, (refl, told.1))

pub returns-in-Err-clause-handled : goal.returns-in-Err-clause-handled
returns-in-Err-clause-handled g c = λ clean.
    (outcome.Failed c.in-Err.fault, c.in-Err.ensures.answered clean, c.reply_to_fault.ensures.fixed c.args.close)

pub returns-in-Err-clause-store : goal.returns-in-Err-clause-store
returns-in-Err-clause-store g c = λ h. c.in-Err.ensures.store (ap Err (c.reply_to_fault.ensures.store h))
