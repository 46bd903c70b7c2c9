use Rattle.std.proofs.Common.{eqb, sym, rules, tests}
use Rattle.td_batch_rows.proofs.PartFacts.{gives_parts, one_part, two_parts, three_parts, four_parts}
use Rattle.td_batch_rows.proofs.declarations.three_parts.Goals as goal

pub returns-in_err-second : goal.returns-in_err-second
returns-in_err-second c =
    let e = c.split-parts.ensures in
    let all = gives_parts (λ b. eqb b 58) c.args.text.now e.runs e.rest e.done e.closure (λ x r q k. search (rules, tests)) in
    let first = rw c.in_ok-first.was at c.next.ensures.steps in
    rw c.from_residual-in_err-second.ensures (sym (one_part all c.in_ok-first.first c.next.new.self first c.next-2.new.self (rw c.in_err-second.was at c.next-2.ensures.steps)))

pub returns-in_err-third : goal.returns-in_err-third
returns-in_err-third c =
    let e = c.split-parts.ensures in
    let all = gives_parts (λ b. eqb b 58) c.args.text.now e.runs e.rest e.done e.closure (λ x r q k. search (rules, tests)) in
    let first = rw c.in_ok-first.was at c.next.ensures.steps in
    let second = rw c.in_ok-second.was at c.next-2.ensures.steps in
    let none = two_parts all c.in_ok-first.first c.next.new.self first c.in_ok-second.second c.next-2.new.self second c.next-3.new.self (rw c.in_err-third.was at c.next-3.ensures.steps) in
    rw c.from_residual-in_err-third.ensures (sym none)

pub returns-in-Some : goal.returns-in-Some
returns-in-Some c =
    let e = c.split-parts.ensures in
    let all = gives_parts (λ b. eqb b 58) c.args.text.now e.runs e.rest e.done e.closure (λ x r q k. search (rules, tests)) in
    let first = rw c.in_ok-first.was at c.next.ensures.steps in
    let second = rw c.in_ok-second.was at c.next-2.ensures.steps in
    let third = rw c.in_ok-third.was at c.next-3.ensures.steps in
    sym (four_parts all c.in_ok-first.first c.next.new.self first c.in_ok-second.second c.next-2.new.self second c.in_ok-third.third c.next-3.new.self third c.in-Some.field-0 c.next-4.new.self (rw c.in-Some.is at c.next-4.ensures.steps))

pub returns-in-None : goal.returns-in-None
returns-in-None c =
    let e = c.split-parts.ensures in
    let all = gives_parts (λ b. eqb b 58) c.args.text.now e.runs e.rest e.done e.closure (λ x r q k. search (rules, tests)) in
    let first = rw c.in_ok-first.was at c.next.ensures.steps in
    let second = rw c.in_ok-second.was at c.next-2.ensures.steps in
    let third = rw c.in_ok-third.was at c.next-3.ensures.steps in
    sym (three_parts all c.in_ok-first.first c.next.new.self first c.in_ok-second.second c.next-2.new.self second c.in_ok-third.third c.next-3.new.self third c.next-4.new.self (rw c.in-None.is at c.next-4.ensures.steps))
