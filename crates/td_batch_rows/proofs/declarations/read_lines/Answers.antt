use Rattle.std.proofs.Common.{◌≡◌, ◌∙◌, ◌∷◌, ◌++◌, [], Some, None, length, eqb, sym, ap, rules, tests}
use Rattle.std.proofs.lemmas.Iterator.Consumers.{YieldsList-at, YieldsList-turn, YieldsList-end}
use Rattle.std.proofs.lemmas.List.{length_push}
use Rattle.td_batch_rows.specs.Declarations.{each_line, line_read, parts_at}
use Rattle.td_batch_rows.proofs.PartFacts.{gives_parts, read_from, read_goes_on, read_stops, read_ends}
use Rattle.td_batch_rows.proofs.declarations.read_lines.Goals as goal

pub loop-part-preserved : goal.loop-part-preserved
loop-part-preserved c =
    let e = c.split-part-items.ensures in
    let cut = gives_parts (λ b. eqb b 59) c.args.text.now e.runs e.rest e.done e.closure (λ x r q k. search (rules, tests)) in
    let parts = YieldsList-at c.into_iter-part-iterator.ensures.into_iter_gives cut in
    let turn = YieldsList-turn parts c.loop-part.yielded _ c.loop-part.yielded_by _ _ c.in-Some.part c.in-Some.is c.next.ensures.steps in
    let all = parts_at 59 c.args.text.now in
    let done = c.loop-part.lines.items in
    let line = c.in-Some-line_in.line in
    let says : Some line ≡ line_read c.in-Some.part.now = c.in-Some-line_in.ensures in
    let on = c.loop-part.invariant ∙ read_goes_on done line all (length c.loop-part.yielded) c.in-Some.part.now turn.0 (says ∙ ap line_read turn.1) in
    let goes : each_line all ≡ read_from c.push.new.self.items all (length (c.loop-part.yielded ++ c.in-Some.part ∷ [])) =
    rw (c.in_ok-push.ensures.items, length_push c.loop-part.yielded c.in-Some.part) on in
    goes

pub returns-in_default : goal.returns-in_default
returns-in_default c =
    let e = c.split-part-items.ensures in
    let cut = gives_parts (λ b. eqb b 59) c.args.text.now e.runs e.rest e.done e.closure (λ x r q k. search (rules, tests)) in
    let parts = YieldsList-at c.into_iter-part-iterator.ensures.into_iter_gives cut in
    let turn = YieldsList-turn parts c.loop-part.yielded _ c.loop-part.yielded_by _ _ c.in-Some.part c.in-Some.is c.next.ensures.steps in
    let all = parts_at 59 c.args.text.now in
    let says : None ≡ line_read c.in-Some.part.now = sym c.in_default.is ∙ c.line_in.ensures in
    sym (c.loop-part.invariant ∙ read_stops c.loop-part.lines.items all (length c.loop-part.yielded) c.in-Some.part.now turn.0 (says ∙ ap line_read turn.1))

pub returns : goal.returns
returns c =
    let e = c.split-part-items.ensures in
    let cut = gives_parts (λ b. eqb b 59) c.args.text.now e.runs e.rest e.done e.closure (λ x r q k. search (rules, tests)) in
    let parts = YieldsList-at c.into_iter-part-iterator.ensures.into_iter_gives cut in
    let end = YieldsList-end parts c.loop-part.yielded _ c.loop-part.yielded_by _ _ c.in-None.is c.next.ensures.steps in
    sym (c.loop-part.invariant ∙ read_ends c.loop-part.lines.items (parts_at 59 c.args.text.now) (length c.loop-part.yielded) end.1)
