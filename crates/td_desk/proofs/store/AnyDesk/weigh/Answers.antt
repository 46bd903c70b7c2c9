use Rattle.std.proofs.Common.{◌≡◌, ℕ, Option, w64, sym, ◌∙◌, ap, rules, subst}
use Rattle.std.proofs.lemmas.Int.{to_z-of_z}
use Rattle.td_acts.specs.Deciding.{IsLoaded}
use Rattle.td_commands.specs.Commands.{owner_of, IsProper, Need, need_of}
use Rattle.td_model.specs.Content.{Content, IsSound}
use Rattle.td_acts.specs.Weighing.{IsWeighed, kept_for, kept_of}
use Rattle.td_desk.proofs.Weighed.{weighed_by}
use Rattle.td_desk.proofs.store.AnyDesk.weigh.Goals as goal

pub returns-clause-decision : goal.returns-clause-decision
returns-clause-decision g c = λ clean live sound.
    let rows = g.S.Store.holds.content c.args.self.now in
    let command = c.args.command.now in
    let country : c.office.result ≡ rows.country = c.office.ensures (c.load.ensures.kept clean) live in
    let owner : c.owner-owner.result ≡ owner_of rows.country command = c.owner-owner.ensures ∙ ap (λ country. owner_of country command) country in
    let loaded : IsLoaded (kept_of rows command) (need_of command) c.in_ok-loaded.loaded =
    subst (λ (o : Option ℕ). IsLoaded (kept_for o rows) (need_of command) c.in_ok-loaded.loaded) owner
    (subst (λ (n : Need). IsLoaded (kept_for c.owner-owner.result rows) n c.in_ok-loaded.loaded) c.needs.ensures (c.in_ok-loaded.ensures.loaded clean live sound)) in
    weighed_by rows c.args.at command c.in_ok-loaded.loaded c.in_ok-verdict.verdict c.new.result loaded
    (rw (to_z-of_z w64 c.args.at c.ranges.at) at c.in_ok-verdict.ensures) c.new.ensures

pub returns-clause-decided : goal.returns-clause-decided
returns-clause-decided g c = λ clean live sound.
    let same = c.load.ensures.same clean live in
    let proper : IsProper c.args.command.now = search rules in (
      c.args.at,
      c.args.command.now,
      proper,
      subst (λ (x : Content). IsWeighed x c.args.at c.args.command.now c.new.result) (sym same)
          (returns-clause-decision g c clean (c.load.ensures.live clean live) (subst IsSound same sound)),
    )
