use Rattle.std.proofs.Common.{◌≢◌, List, subst, ap, ◌++◌, ◌∷◌, [], take, arith, ◌+◌, ◌≡◌, ◌∙◌, sym}
use Rattle.std.proofs.lemmas.List.{take_more}
use Rattle.std.proofs.lemmas.Grind.{common_steps}
use Rattle.std.proofs.lemmas.List.Elements.{All-push}
use Rattle.td_desk.specs.declared.fault.Fault.TheVariants as fault
use Rattle.td_desk.specs.declared.running.Outcome.{Outcome}
use Rattle.td_desk.specs.declared.running.Outcome.TheVariants as outcome
use Rattle.std.specs.Prelude.{All}
use Rattle.td_commands.specs.declared.command.Stamped.{Stamped}
use Rattle.td_model.specs.Content.{Content}
use Rattle.td_desk.specs.Runs.{IsRun}
use Rattle.td_desk.proofs.Calls.{one_outcome_more, before_and_last}
use Rattle.td_desk.proofs.Turns.{run_on}
use Rattle.td_desk.proofs.running.run.Goals as goal

pub loop-stamped-preserved : goal.loop-stamped-preserved
loop-stamped-preserved g c =
    let is_live = g.D.Desk.seen.is_live in
    let content = g.D.Desk.seen.content in
    let before = take c.loop-stamped.stamped-index c.args.list.now in
    let more : take (c.loop-stamped.stamped-index + 1) c.args.list.now ≡ before ++ c.stamped-item.result ∷ [] =
    take_more c.args.list.now c.loop-stamped.stamped-index c.stamped-item.result c.loop-stamped-test.true ∙ ap (λ s. before ++ s ∷ []) (sym c.stamped-item.is) in
    record {
      room = grind (arith, common_steps);
      one_each = grind (arith, common_steps);
      stored = rw c.push_reserved.ensures.items (All-push (λ o. o ≡ outcome.Failed fault.Store → g.D.Desk.seen.has_store) c.loop-stamped.outcomes.items c.do_one-outcome.result c.loop-stamped.invariant.stored c.do_one-outcome.ensures.store);
      calls = rw (more, c.push_reserved.ensures.items) (one_outcome_more g.D.Desk.seen c.args.desk.now c.loop-stamped.desk c.do_one-outcome.new.desk before c.loop-stamped.outcomes.items c.stamped-item.result c.do_one-outcome.result c.loop-stamped.invariant.calls c.do_one-outcome.ensures.calls);
      stays = λ h live none.
          let each = before_and_last (λ o. o ≢ outcome.Failed fault.Store) c.loop-stamped.outcomes.items c.do_one-outcome.result (subst (λ (os : List Outcome). All (λ o. o ≢ outcome.Failed fault.Store) os) c.push_reserved.ensures.items none) in
          c.do_one-outcome.ensures.stays h (c.loop-stamped.invariant.stays (c.do_one-outcome.ensures.clean h) live each.0) each.1;
      clean = λ h. c.loop-stamped.invariant.clean (c.do_one-outcome.ensures.clean h);
      live = λ h now. c.loop-stamped.invariant.live (c.do_one-outcome.ensures.clean h) (c.do_one-outcome.ensures.live h now);
      runs = λ h was_live sound books tied.
          let was = c.loop-stamped.invariant.runs (c.do_one-outcome.ensures.clean h) was_live sound books tied in
          rw (more, c.push_reserved.ensures.items) (run_on (content c.args.desk.now).country books before c.loop-stamped.outcomes.items c.stamped-item.result was.0 (content c.loop-stamped.desk) (content c.do_one-outcome.new.desk) (is_live c.loop-stamped.desk) (is_live c.do_one-outcome.new.desk) was.1 was.2 (c.do_one-outcome.ensures.live h) c.do_one-outcome.result (c.do_one-outcome.ensures.performs h));
    }

pub returns-clause-private : goal.returns-clause-private
returns-clause-private g c = λ clean live sound books tied.
    let all : take c.loop-stamped.stamped-index c.args.list.now ≡ c.args.list.now = grind (arith, common_steps) in
    subst (λ (list : List Stamped). (x : Content) × IsRun (g.D.Desk.seen.content c.args.desk.now).country books list c.loop-stamped.outcomes.items x
    × (g.D.Desk.seen.is_live c.loop-stamped.desk → g.D.Desk.seen.content c.loop-stamped.desk ≡ x)) all
    (c.loop-stamped.invariant.runs clean live sound books tied)
