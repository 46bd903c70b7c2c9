use Rattle.std.proofs.Common.{◌≡◌, ◌∙◌, false, not, is_ok, sym, ap, rules, subst, w64}
use Rattle.std.proofs.lemmas.Int.{to_z-of_z}
use Rattle.td_commands.specs.declared.command.Stamped.{Stamped}
use Rattle.td_commands.specs.declared.said.Said.{Said}
use Rattle.td_model.specs.Content.{Content, IsSound}
use Rattle.td_desk.specs.Runs.{LeavesAfter}
use Rattle.td_acts.specs.Weighing.{IsWeighed, Carries}
use Rattle.td_desk.proofs.Leaving.{left_failed, left_said, settled_said}
use Rattle.td_answers.specs.Answers.{said_reply}
use Rattle.td_http.proofs.service.weigh_and_carry.Goals as goal

pub returns-clause-answered : goal.returns-clause-answered
returns-clause-answered g c = λ clean.
    let content = g.D.Desk.seen.content in
    let s : Stamped = record { at = c.args.at; command = c.args.command.now } in
    let weighing = c.in-Ok.ensures in
    let carrying = c.in_ok-_said.ensures in
    let before = carrying.clean clean in
    let shown = weighing.shown before in
    let live = carrying.stays clean shown.1 in
    let same = weighing.same before shown.1 in (
      c.in-Ok.decision.said,
      c.in-Ok-reply_bytes.ensures ∙ ap (λ (words : Said). said_reply words c.args.close) c.said.ensures,
      (
        shown.0,
        live,
        λ sound.
            let weighed : IsWeighed (content c.args.desk.now) c.args.at c.args.command.now c.in-Ok.decision = rw (to_z-of_z w64 c.args.at c.ranges.at) at (weighing.decision before shown.0 sound) in (
              weighed.said,
              subst (λ (old : Content). Carries old s (content c.carry.new.self)) same
                  (carrying.carried clean live (subst IsSound (sym same) sound) s weighing.proper (subst (λ (old : Content). IsWeighed old s.at s.command c.in-Ok.decision) (sym same) weighed)),
            ),
      ),
    )

pub returns-clause-crash : goal.returns-clause-crash
returns-clause-crash g c = λ clean.
    let view = g.D.Desk.seen in
    let s : Stamped = record { at = c.args.at; command = c.args.command.now } in
    let before = c.carry.ensures.clean clean in
    let shown = c.in-Ok.ensures.shown before in
    let weighed : IsSound (view.content c.args.desk.now) → IsWeighed (view.content c.args.desk.now) s.at s.command c.in-Ok.decision =
    (λ sound. rw (to_z-of_z w64 c.args.at c.ranges.at) at (c.in-Ok.ensures.decision before shown.0 sound)) in
    left_said view c.args.desk.now c.weigh.new.self c.carry.new.self s c.in-Ok.decision (c.weigh.ensures.crash before) weighed
    (c.in_ok-_said.ensures.stays clean shown.1) (λ some. c.carry.ensures.settled some clean) c.carry.ensures.still

pub returns-clause-settled : goal.returns-clause-settled
returns-clause-settled g c = λ clean.
    settled_said g.D.Desk.seen c.weigh.new.self c.carry.new.self c.in-Ok.decision.change
    (c.weigh.ensures.settled (c.carry.ensures.clean clean)) (λ some. c.carry.ensures.settled some clean) c.carry.ensures.still

pub returns-in_err-_said-clause-crash : goal.returns-in_err-_said-clause-crash
returns-in_err-_said-clause-crash g c = λ clean.
    let view = g.D.Desk.seen in
    let s : Stamped = record { at = c.args.at; command = c.args.command.now } in
    let before = c.carry.ensures.clean clean in
    let shown = c.in-Ok.ensures.shown before in
    let weighed : IsSound (view.content c.args.desk.now) → IsWeighed (view.content c.args.desk.now) s.at s.command c.in-Ok.decision =
    (λ sound. rw (to_z-of_z w64 c.args.at c.ranges.at) at (c.in-Ok.ensures.decision before shown.0 sound)) in
    let failed : is_ok c.from_residual.result ≡ false = search rules in
    subst (λ b. LeavesAfter view c.args.desk.now s (not b) c.carry.new.self) (sym failed)
    (left_failed view c.args.desk.now c.weigh.new.self c.carry.new.self s c.in-Ok.decision (c.weigh.ensures.crash before) weighed
    c.weigh.ensures.proper (c.weigh.ensures.live before) (c.weigh.ensures.same before) (c.carry.ensures.crash clean))
