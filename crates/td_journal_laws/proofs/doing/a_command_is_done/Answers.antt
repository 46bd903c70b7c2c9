use Rattle.std.proofs.Common.{◌≡◌, ◌∙◌, ℤ, None, inr, of_z, refl, rules, subst, sym, to_z, w64}
use Rattle.td_model.specs.Content.{Content, IsSound}
use Rattle.td_acts.specs.Weighing.{IsWeighed}
use Rattle.td_desk.proofs.Leaving.{adds_none, left_failed, left_said}
use Rattle.td_journal.specs.Journaled.{journaled}
use Rattle.td_journal_laws.proofs.doing.a_command_is_done.Goals as goal

pub returns-in-Ok-carry : goal.returns-in-Ok-carry
returns-in-Ok-carry g c = λ clean sound.
    let view = journaled g.D.Desk.seen in
    let before = c.carry.ensures.clean clean in
    let shown = c.in-Ok.ensures.shown before in
    let same = c.weigh.ensures.same before shown.1 in
    let mid_sound = subst IsSound (sym same) sound in
    let first : view.is_clean c.weigh.new.self → view.is_live c.args.desk.now → IsSound (view.content c.args.desk.now)
    → IsWeighed (view.content c.args.desk.now) c.args.stamped.now.at c.args.stamped.now.command c.in-Ok.decision = search rules in
    let decided : IsWeighed (view.content c.weigh.new.self) c.args.stamped.now.at c.args.stamped.now.command c.in-Ok.decision =
    subst (λ (x : Content). IsWeighed x c.args.stamped.now.at c.args.stamped.now.command c.in-Ok.decision) (sym same) (first before shown.0 sound) in
    let moment : to_z w64 (of_z w64 c.args.stamped.now.at) ≡ c.args.stamped.now.at = search rules in
    let weighed : view.weighed c.args.desk.now c.args.stamped.now None c.weigh.new.self =
    subst (λ (at : ℤ). view.weighed c.args.desk.now (record { at = at; command = c.args.stamped.now.command }) None c.weigh.new.self) moment c.in-Ok.ensures.call in
    let live = c.in-Ok-carry.ensures.stays clean shown.1 in (
      c.in-Ok-carry.ensures.said ∙ (first before shown.0 sound).said,
      c.weigh.new.self,
      record {
        clean = clean;
        weighed = weighed;
        mid_clean = before;
        live = shown.1.0;
        same = same;
        carried = c.in-Ok-carry.ensures.call;
        leaves = record {
          sound = mid_sound;
          settled = c.weigh.ensures.settled before shown.1;
          leaves = left_said view c.weigh.new.self c.weigh.new.self c.carry.new.self c.args.stamped.now c.in-Ok.decision (adds_none view c.weigh.new.self) (λ kept. decided) live
              (λ some. c.carry.ensures.settled some clean) c.carry.ensures.still;
          answered = λ is. c.in-Ok-carry.ensures.carried clean live mid_sound c.args.stamped.now c.weigh.ensures.proper decided;
        };
      },
    )

pub returns-in-Err-carry : goal.returns-in-Err-carry
returns-in-Err-carry g c = λ clean sound.
    let view = journaled g.D.Desk.seen in
    let before = c.carry.ensures.clean clean in
    let shown = c.in-Ok.ensures.shown before in
    let same = c.weigh.ensures.same before shown.1 in
    let mid_sound = subst IsSound (sym same) sound in
    let first : view.is_clean c.weigh.new.self → view.is_live c.args.desk.now → IsSound (view.content c.args.desk.now)
    → IsWeighed (view.content c.args.desk.now) c.args.stamped.now.at c.args.stamped.now.command c.in-Ok.decision = search rules in
    let decided : IsWeighed (view.content c.weigh.new.self) c.args.stamped.now.at c.args.stamped.now.command c.in-Ok.decision =
    subst (λ (x : Content). IsWeighed x c.args.stamped.now.at c.args.stamped.now.command c.in-Ok.decision) (sym same) (first before shown.0 sound) in
    let moment : to_z w64 (of_z w64 c.args.stamped.now.at) ≡ c.args.stamped.now.at = search rules in
    let weighed : view.weighed c.args.desk.now c.args.stamped.now None c.weigh.new.self =
    subst (λ (at : ℤ). view.weighed c.args.desk.now (record { at = at; command = c.args.stamped.now.command }) None c.weigh.new.self) moment c.in-Ok.ensures.call in
    inr (
      c.weigh.new.self,
      record {
        clean = clean;
        weighed = weighed;
        mid_clean = before;
        live = shown.1.0;
        same = same;
        carried = c.in-Err-carry.ensures.call;
        leaves = record {
          sound = mid_sound;
          settled = c.weigh.ensures.settled before shown.1;
          leaves = left_failed view c.weigh.new.self c.weigh.new.self c.carry.new.self c.args.stamped.now c.in-Ok.decision (adds_none view c.weigh.new.self) (λ kept. decided) c.weigh.ensures.proper
              (λ live. live) (λ live. refl) (c.carry.ensures.crash clean);
          answered = λ is. cc;
        };
      },
    )
