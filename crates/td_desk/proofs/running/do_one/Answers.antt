use Rattle.std.proofs.Common.{rules}
use Rattle.td_model.specs.Content.{IsSound}
use Rattle.td_acts.specs.Weighing.{IsWeighed}
use Rattle.td_desk.proofs.Leaving.{adds_more, left_failed, left_said}
use Rattle.td_desk.proofs.Releasing.{weighed_find}
use Rattle.td_desk.proofs.running.do_one.Goals as goal

pub returns-in-Err-carry-clause-crash : goal.returns-in-Err-carry-clause-crash
returns-in-Err-carry-clause-crash g c = λ clean.
    let view = g.D.Desk.seen in
    let before = c.carry.ensures.clean clean in
    let shown = c.in-Ok.ensures.shown before in
    let decided : view.is_clean c.weigh.new.self → view.is_live c.args.desk.now → IsSound (view.content c.args.desk.now)
    → IsWeighed (view.content c.args.desk.now) c.args.stamped.now.at c.args.stamped.now.command c.in-Ok.decision = search rules in
    left_failed view c.args.desk.now c.weigh.new.self c.carry.new.self c.args.stamped.now c.in-Ok.decision
    (c.weigh.ensures.crash before) (decided before shown.0) c.weigh.ensures.proper
    (c.weigh.ensures.live before) (c.weigh.ensures.same before) (c.carry.ensures.crash clean)

pub returns-in-Ok-carry-clause-crash : goal.returns-in-Ok-carry-clause-crash
returns-in-Ok-carry-clause-crash g c = λ clean.
    let view = g.D.Desk.seen in
    let before = c.carry.ensures.clean clean in
    let shown = c.in-Ok.ensures.shown before in
    let decided : view.is_clean c.weigh.new.self → view.is_live c.args.desk.now → IsSound (view.content c.args.desk.now)
    → IsWeighed (view.content c.args.desk.now) c.args.stamped.now.at c.args.stamped.now.command c.in-Ok.decision = search rules in
    left_said view c.args.desk.now c.weigh.new.self c.carry.new.self c.args.stamped.now c.in-Ok.decision
    (c.weigh.ensures.crash before) (decided before shown.0) (c.in-Ok-carry.ensures.stays clean shown.1)
    (λ some. c.carry.ensures.settled some clean) c.carry.ensures.still

pub returns-in-Err-clause-crash : goal.returns-in-Err-clause-crash
returns-in-Err-clause-crash g c = λ clean.
    adds_more g.D.Desk.seen _ c.args.desk.now c.weigh.new.self (c.weigh.ensures.crash clean)

pub returns-in-Ok-carry-clause-found : goal.returns-in-Ok-carry-clause-found
returns-in-Ok-carry-clause-found g c = λ clean sound mrn limit is told.
    let view = g.D.Desk.seen in
    let before = c.carry.ensures.clean clean in
    let shown = c.in-Ok.ensures.shown before in
    let decided : view.is_clean c.weigh.new.self → view.is_live c.args.desk.now → IsSound (view.content c.args.desk.now)
    → IsWeighed (view.content c.args.desk.now) c.args.stamped.now.at c.args.stamped.now.command c.in-Ok.decision = search rules in
    weighed_find (view.content c.args.desk.now) c.args.stamped.now c.in-Ok.decision c.in-Ok-carry.said sound (decided before shown.0 sound)
    c.in-Ok-carry.ensures.said mrn limit is cc
