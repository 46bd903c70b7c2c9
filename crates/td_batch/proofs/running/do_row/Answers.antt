use Rattle.std.proofs.Common.{◌∙◌, ap, sym, subst, inl, inr, Err, w64}
use Rattle.std.proofs.lemmas.Int.{to_z-of_z}
use Rattle.td_commands.specs.declared.command.Stamped.{Stamped}
use Rattle.td_model.specs.Content.{Content, IsSound}
use Rattle.td_acts.specs.Weighing.{IsWeighed, Carries}
use Rattle.td_desk.proofs.Leaving.{left_failed, left_said, settled_said}
use Rattle.td_desk.specs.declared.fault.Fault.TheVariants as fault
use Rattle.td_batch.specs.Runs.{at_moment}
use Rattle.td_batch.proofs.Done.{by_fault, is_nothing, same_fault}
use Rattle.td_batch.proofs.running.do_row.Goals as goal

pub returns-in-Ok-carry-clause-done : goal.returns-in-Ok-carry-clause-done
returns-in-Ok-carry-clause-done g c =
    let view = g.D.Desk.seen in
    let content = view.content in
    let s : Stamped = at_moment c.args.at (g.R.BatchRow.command c.args.row.now) in
    let weighing = c.in-Ok.ensures in
    let carrying = c.in-Ok-carry.ensures in
    let weighed : view.is_live c.args.desk.now → IsSound (content c.args.desk.now) → view.is_clean c.weigh.new.self
    → IsWeighed (content c.args.desk.now) s.at s.command c.in-Ok.decision =
    (λ was sound before. rw (to_z-of_z w64 c.args.at c.ranges.at, c.command.ensures) at (weighing.decision before was sound)) in
    record {
      clean = λ clean. weighing.clean (carrying.clean clean);
      live = λ clean live. weighing.live (carrying.clean clean) (carrying.live clean live);
      performs = λ clean.
          let before = carrying.clean clean in
          let shown = weighing.shown before in
          let live = carrying.stays clean shown.1 in
          let same = weighing.same before shown.1 in (
            shown.0,
            live,
            λ sound.
                let is = weighed shown.0 sound before in (
                  carrying.said ∙ is.said,
                  subst (λ (old : Content). Carries old s (content c.carry.new.self)) same
                      (carrying.carried clean live (subst IsSound (sym same) sound) s (rw c.command.ensures at weighing.proper)
                      (subst (λ (old : Content). IsWeighed old s.at s.command c.in-Ok.decision) (sym same) is)),
                ),
          );
      unchanged = λ clean live sound none.
          let before = carrying.clean clean in
          let shown = weighing.shown before in
          ap content (c.carry.ensures.still (is_nothing c.in-Ok.decision.change ((weighed shown.0 sound before).changes ∙ none)))
          ∙ weighing.same before shown.1;
      stays = λ clean was other. carrying.stays clean (weighing.shown (carrying.clean clean)).1;
      memory = λ clean is. cc;
      crash = λ clean.
          let before = carrying.clean clean in
          let shown = weighing.shown before in
          left_said view c.args.desk.now c.weigh.new.self c.carry.new.self s c.in-Ok.decision (c.weigh.ensures.crash before)
          (λ sound. weighed shown.0 sound before) (carrying.stays clean shown.1) (λ some. c.carry.ensures.settled some clean) c.carry.ensures.still;
      settled = λ clean.
          settled_said view c.weigh.new.self c.carry.new.self c.in-Ok.decision.change (c.weigh.ensures.settled (carrying.clean clean))
          (λ some. c.carry.ensures.settled some clean) c.carry.ensures.still;
      store = λ is. cc;
      calls = inl (c.weigh.new.self, rw (to_z-of_z w64 c.args.at c.ranges.at, c.command.ensures) at weighing.call, carrying.call);
      proper = rw c.command.ensures at weighing.proper;
    }

pub returns-clause-done : goal.returns-clause-done
returns-clause-done g c =
    let view = g.D.Desk.seen in
    let content = view.content in
    let s : Stamped = at_moment c.args.at (g.R.BatchRow.command c.args.row.now) in
    let weighing = c.in-Ok.ensures in
    let carrying = c.in-Err-carry.ensures in
    let weighed : view.is_live c.args.desk.now → IsSound (content c.args.desk.now) → view.is_clean c.weigh.new.self
    → IsWeighed (content c.args.desk.now) s.at s.command c.in-Ok.decision =
    (λ was sound before. rw (to_z-of_z w64 c.args.at c.ranges.at, c.command.ensures) at (weighing.decision before was sound)) in
    record {
      clean = λ clean. weighing.clean (carrying.clean clean);
      live = λ clean live. weighing.live (carrying.clean clean) (carrying.live clean live);
      performs = λ clean live. carrying.err clean live ∙ weighing.same (carrying.clean clean) (carrying.live clean live);
      unchanged = λ clean live sound none. carrying.err clean live ∙ weighing.same (carrying.clean clean) (carrying.live clean live);
      stays = λ clean was other. by_fault c.in-Err-carry.fault (λ is. carrying.memory clean (ap Err is)) other;
      memory = λ clean is. carrying.memory clean (ap Err (same_fault c.in-Err-carry.fault fault.NoMemory is));
      crash = λ clean.
          let before = carrying.clean clean in
          let shown = weighing.shown before in
          left_failed view c.args.desk.now c.weigh.new.self c.carry.new.self s c.in-Ok.decision (c.weigh.ensures.crash before)
          (λ sound. weighed shown.0 sound before) (rw c.command.ensures at weighing.proper) (c.weigh.ensures.live before)
          (c.weigh.ensures.same before) (c.carry.ensures.crash clean);
      settled = λ clean.
          settled_said view c.weigh.new.self c.carry.new.self c.in-Ok.decision.change (c.weigh.ensures.settled (carrying.clean clean))
          (λ some. c.carry.ensures.settled some clean) c.carry.ensures.still;
      store = λ is. carrying.store (ap Err (same_fault c.in-Err-carry.fault fault.Store is));
      calls = inl (inr (c.weigh.new.self, rw (to_z-of_z w64 c.args.at c.ranges.at, c.command.ensures) at weighing.call, carrying.call));
      proper = rw c.command.ensures at weighing.proper;
    }
