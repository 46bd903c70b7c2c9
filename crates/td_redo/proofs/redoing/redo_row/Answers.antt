use Rattle.std.proofs.Common.{◌≡◌, ℕ, ℤ, List, None, of_z, rules, subst, to_z, w64}
use Rattle.td_commands.specs.declared.command.Stamped.{Stamped}
use Rattle.td_acts.specs.declared.rows.Verdict.{Verdict}
use Rattle.td_model.specs.Changes.{is_change}
use Rattle.td_model.specs.Content.{IsSound}
use Rattle.td_acts.specs.Weighing.{IsWeighed}
use Rattle.td_desk.proofs.Leaving.{left_failed}
use Rattle.td_redo.specs.Endings.{IsEndingFor}
use Rattle.td_redo.specs.declared.redoing.Redone.{Redone}
use Rattle.td_redo.specs.declared.redoing.Redone.TheVariants.{Carried}
use Rattle.td_redo.proofs.RedoneRow.{adds_row, is_something, row_left, row_weighed}
use Rattle.td_redo.proofs.redoing.redo_row.Goals as goal

-- the decision leads to what the ending says
abbrev LeadsTo : Stamped → List ℕ → Verdict → Redone → Type 0
LeadsTo s reply v ending = IsEndingFor ending s.command reply (is_change v.change) v.said

pub returns-in_err-_said-in-Carried-clause-crash : goal.returns-in_err-_said-in-Carried-clause-crash
returns-in_err-_said-in-Carried-clause-crash g c = λ clean.
    let view = g.D.Desk.seen in
    let before = c.carry.ensures.clean clean in
    let shown = c.in_ok-decision.ensures.shown before in
    let decided : view.is_clean c.weigh.new.self → view.is_live c.args.desk.now → IsSound (view.content c.args.desk.now)
    → IsWeighed (view.content c.args.desk.now) c.args.stamped.now.at c.args.stamped.now.command c.in_ok-decision.decision = search rules in
    let is : LeadsTo c.args.stamped.now c.args.reply.now c.in_ok-decision.decision Carried =
    subst (LeadsTo c.args.stamped.now c.args.reply.now c.in_ok-decision.decision) c.in-Carried.is c.in-Ok.ensures in
    adds_row view c.args.desk.now c.carry.new.self c.args.stamped.now c.in_ok-decision.decision c.args.reply.now (decided before shown.0) is
    (left_failed view c.args.desk.now c.weigh.new.self c.carry.new.self c.args.stamped.now c.in_ok-decision.decision
    (c.weigh.ensures.crash before) (decided before shown.0) c.weigh.ensures.proper
    (c.weigh.ensures.live before) (c.weigh.ensures.same before) (c.carry.ensures.crash clean))

pub returns-in_ok-_said-in-Carried-clause-crash : goal.returns-in_ok-_said-in-Carried-clause-crash
returns-in_ok-_said-in-Carried-clause-crash g c = λ clean.
    let view = g.D.Desk.seen in
    let before = c.carry.ensures.clean clean in
    let shown = c.in_ok-decision.ensures.shown before in
    let decided : view.is_clean c.weigh.new.self → view.is_live c.args.desk.now → IsSound (view.content c.args.desk.now)
    → IsWeighed (view.content c.args.desk.now) c.args.stamped.now.at c.args.stamped.now.command c.in_ok-decision.decision = search rules in
    let is : LeadsTo c.args.stamped.now c.args.reply.now c.in_ok-decision.decision Carried =
    subst (LeadsTo c.args.stamped.now c.args.reply.now c.in_ok-decision.decision) c.in-Carried.is c.in-Ok.ensures in
    adds_row view c.args.desk.now c.carry.new.self c.args.stamped.now c.in_ok-decision.decision c.args.reply.now (decided before shown.0) is
    (left_failed view c.args.desk.now c.weigh.new.self c.carry.new.self c.args.stamped.now c.in_ok-decision.decision
    (c.weigh.ensures.crash before) (decided before shown.0) c.weigh.ensures.proper
    (c.weigh.ensures.live before) (c.weigh.ensures.same before) (c.carry.ensures.crash clean))

pub returns-in_ok-_said-in-Carried-clause-settled : goal.returns-in_ok-_said-in-Carried-clause-settled
returns-in_ok-_said-in-Carried-clause-settled g c = λ clean live.
    let is : LeadsTo c.args.stamped.now c.args.reply.now c.in_ok-decision.decision Carried =
    subst (LeadsTo c.args.stamped.now c.args.reply.now c.in_ok-decision.decision) c.in-Carried.is c.in-Ok.ensures in
    c.carry.ensures.settled (is_something c.in_ok-decision.decision.change is.0) clean live

pub returns-in_ok-_said-in-Carried-clause-calls : goal.returns-in_ok-_said-in-Carried-clause-calls
returns-in_ok-_said-in-Carried-clause-calls g c =
    let view = g.D.Desk.seen in
    let same : to_z w64 (of_z w64 c.args.stamped.now.at) ≡ c.args.stamped.now.at = search rules in
    let weighed : view.weighed c.args.desk.now c.args.stamped.now None c.weigh.new.self =
    subst (λ (at : ℤ). view.weighed c.args.desk.now (record { at = at; command = c.args.stamped.now.command }) None c.weigh.new.self) same c.in_ok-decision.ensures.call in
    (c.weigh.new.self, weighed, c.in_ok-_said-in-Carried.ensures.call)

pub returns-in-Stands-clause-ends : goal.returns-in-Stands-clause-ends
returns-in-Stands-clause-ends g c = λ clean sound.
    let view = g.D.Desk.seen in
    let shown = c.in_ok-decision.ensures.shown clean in
    let decided : view.is_clean c.weigh.new.self → view.is_live c.args.desk.now → IsSound (view.content c.args.desk.now)
    → IsWeighed (view.content c.args.desk.now) c.args.stamped.now.at c.args.stamped.now.command c.in_ok-decision.decision = search rules in
    row_left c.in-Ok.ending (view.content c.args.desk.now) (view.content c.weigh.new.self) c.args.stamped.now c.in_ok-decision.decision c.args.reply.now
    c.in-Stands.is (decided clean shown.0 sound) c.in-Ok.ensures (c.weigh.ensures.same clean shown.1)

pub returns-in-Stands-clause-calls : goal.returns-in-Stands-clause-calls
returns-in-Stands-clause-calls g c =
    let view = g.D.Desk.seen in
    let same : to_z w64 (of_z w64 c.args.stamped.now.at) ≡ c.args.stamped.now.at = search rules in
    let weighed : view.weighed c.args.desk.now c.args.stamped.now None c.weigh.new.self =
    subst (λ (at : ℤ). view.weighed c.args.desk.now (record { at = at; command = c.args.stamped.now.command }) None c.weigh.new.self) same c.in_ok-decision.ensures.call in
    row_weighed view c.in-Ok.ending c.args.desk.now c.weigh.new.self c.args.stamped.now c.in-Stands.is weighed
