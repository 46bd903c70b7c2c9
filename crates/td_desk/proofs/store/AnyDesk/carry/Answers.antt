use Rattle.std.proofs.Common.{◌≡◌, sym, ◌∙◌, ap, subst}
use Rattle.td_model.specs.declared.change.Change.{Change}
use Rattle.td_acts.specs.declared.rows.Verdict.{Verdict}
use Rattle.td_acts.specs.Deciding.{decision_on}
use Rattle.td_model.specs.Content.{Content, content_after}
use Rattle.td_acts.specs.Weighing.{owner_account, Carries}
use Rattle.td_acts.proofs.Carrying.{carries}
use Rattle.td_desk.proofs.store.AnyDesk.carry.Goals as goal

pub returns-in-Nothing-clause-carried : goal.returns-in-Nothing-clause-carried
returns-in-Nothing-clause-carried g c = λ clean live sound s proper weighed.
    let rows = g.S.Store.holds.content c.args.self.now in
    let none : content_after (decision_on (owner_account rows s.command) s.at s.command).change rows ≡ rows =
    ap (λ (change : Change). content_after change rows) (sym weighed.written ∙ sym (ap (λ (v : Verdict). v.change) c.into_verdict-said.ensures) ∙ c.in-Nothing.is) in
    subst (λ (new : Content). Carries rows s new) none (carries rows s sound proper)

pub returns-clause-carried : goal.returns-clause-carried
returns-clause-carried g c = λ clean live sound s proper weighed.
    let rows = g.S.Store.holds.content c.args.self.now in
    rw (c.in_ok-write.ensures.written clean live ∙ ap (λ (change : Change). content_after change rows) (ap (λ (v : Verdict). v.change) c.into_verdict-said.ensures ∙ weighed.written)) (carries rows s sound proper)
