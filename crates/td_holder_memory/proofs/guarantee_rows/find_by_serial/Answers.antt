use Rattle.std.proofs.Common.{◌≡◌, ◌+◌, ◌<◌, length, get_or, refl, sym, ◌∙◌, ap, arith}
use Rattle.std.proofs.lemmas.Bool.Decides.{nat_tests}
use Rattle.std.proofs.lemmas.List.{get_or_default}
use Rattle.std.proofs.lemmas.Slice.Eq.{bytes_eq-Decides}
use Rattle.td_guarantee.specs.declared.guarantee.Guarantee.{Guarantee}
use Rattle.td_holder_memory.proofs.BySerial.{one_serial, none_has, alone_at}
use Rattle.td_holder_memory.proofs.guarantee_rows.find_by_serial.Goals as goal

-- the GRN has no serial here
pub returns-in_err-at-clause-none : goal.returns-in_err-at-clause-none
returns-in_err-at-clause-none c = λ none. none_has (λ g. g.grn) c.args.country c.args.guarantees.now c.args.grn.now c.requires (λ k d within serial is. c.in_err-at.ensures.none refl k (c.serial.ensures ∙ serial))

-- the place is behind all guarantees
pub returns-in_err-guarantee-clause-none : goal.returns-in_err-guarantee-clause-none
returns-in_err-guarantee-clause-none c = λ none.
    none_has (λ g. g.grn) c.args.country c.args.guarantees.now c.args.grn.now c.requires (λ k d within serial is.
    let place : c.in_ok-at.at ≡ k = omega (arith, one_serial (c.in_ok-at.at + 1) (k + 1) (sym c.in_ok-at.ensures.some ∙ c.serial.ensures ∙ serial)) in
    let behind = c.in_err-guarantee.ensures.lookup.0 in
    grind (arith, nat_tests, within, behind, place))

-- the guarantee there has another GRN
pub returns-clause-none : goal.returns-clause-none
returns-clause-none c = λ none.
    let guarantees = c.args.guarantees.now in
    let grn = c.args.grn.now in
    let g = c.in_ok-guarantee.guarantee.now in
    none_has (λ g. g.grn) c.args.country guarantees grn c.requires (λ k d within serial is.
    let place : c.in_ok-at.at ≡ k = omega (arith, one_serial (c.in_ok-at.at + 1) (k + 1) (sym c.in_ok-at.ensures.some ∙ c.serial.ensures ∙ serial)) in
    let there : get_or guarantees k g ≡ g = ap (λ n. get_or guarantees n g) (sym place) ∙ sym c.in_ok-guarantee.ensures.lookup.1 in
    let own : g.grn ≡ grn = ap (λ (x : Guarantee). x.grn) (sym there ∙ get_or_default guarantees k g d within) ∙ is in
    let equal = c.eq.ensures ∙ (bytes_eq-Decides g.grn grn).1 own in
    let other = c.if-eq.false in
    cc)

-- the guarantee there has the GRN
pub returns-then-eq-clause-some : goal.returns-then-eq-clause-some
returns-then-eq-clause-some c =
    let guarantees = c.args.guarantees.now in
    let grn = c.args.grn.now in
    let g = c.in_ok-guarantee.guarantee.now in
    let inside = c.in_ok-guarantee.ensures.lookup.0 in
    let within : c.in_ok-at.at < length guarantees = grind (arith, nat_tests, inside) in
    let own : g.grn ≡ grn = (bytes_eq-Decides g.grn grn).0 (sym c.eq.ensures ∙ c.if-eq.true) in
    alone_at (λ g. g.grn) c.args.country guarantees grn c.in_ok-at.at c.requires within (sym c.serial.ensures ∙ c.in_ok-at.ensures.some)
    (λ d. ap (λ (x : Guarantee). x.grn) (get_or_default guarantees c.in_ok-at.at d g within ∙ sym c.in_ok-guarantee.ensures.lookup.1) ∙ own)
