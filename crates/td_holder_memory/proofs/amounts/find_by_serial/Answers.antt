use Rattle.std.proofs.Common.{◌≡◌, ◌+◌, ◌<◌, ℕ, List, length, get_or, refl, sym, ◌∙◌, ap, arith}
use Rattle.std.proofs.lemmas.Bool.Decides.{nat_tests}
use Rattle.std.proofs.lemmas.List.{get_or_default}
use Rattle.std.proofs.lemmas.Slice.Eq.{bytes_eq-Decides}
use Rattle.td_holder_memory.proofs.BySerial.{one_serial, none_has, alone_at}
use Rattle.td_holder_memory.proofs.amounts.find_by_serial.Goals as goal

-- the GRN has no serial here
pub returns-in_err-at-clause-none : goal.returns-in_err-at-clause-none
returns-in_err-at-clause-none c = λ none. none_has (λ k. k.0) c.args.country c.args.amounts.now c.args.grn.now c.requires (λ i d within serial is. c.in_err-at.ensures.none refl i (c.serial.ensures ∙ serial))

-- the place is behind all amounts
pub returns-in_err-kept-clause-none : goal.returns-in_err-kept-clause-none
returns-in_err-kept-clause-none c = λ none.
    none_has (λ k. k.0) c.args.country c.args.amounts.now c.args.grn.now c.requires (λ i d within serial is.
    let place : c.in_ok-at.at ≡ i = omega (arith, one_serial (c.in_ok-at.at + 1) (i + 1) (sym c.in_ok-at.ensures.some ∙ c.serial.ensures ∙ serial)) in
    let behind = c.in_err-kept.ensures.lookup.0 in
    grind (arith, nat_tests, within, behind, place))

-- the amount there is of another GRN
pub returns-clause-none : goal.returns-clause-none
returns-clause-none c = λ none.
    let amounts = c.args.amounts.now in
    let grn = c.args.grn.now in
    let k = c.in_ok-kept.kept.now in
    none_has (λ k. k.0) c.args.country amounts grn c.requires (λ i d within serial is.
    let place : c.in_ok-at.at ≡ i = omega (arith, one_serial (c.in_ok-at.at + 1) (i + 1) (sym c.in_ok-at.ensures.some ∙ c.serial.ensures ∙ serial)) in
    let there : get_or amounts i k ≡ k = ap (λ n. get_or amounts n k) (sym place) ∙ sym c.in_ok-kept.ensures.lookup.1 in
    let own : k.0 ≡ grn = ap (λ (x : List ℕ × ℕ). x.0) (sym there ∙ get_or_default amounts i k d within) ∙ is in
    let equal = c.eq.ensures ∙ (bytes_eq-Decides k.0 grn).1 own in
    let other = c.if-eq.false in
    cc)

-- the amount there is of the GRN
pub returns-then-eq-clause-some : goal.returns-then-eq-clause-some
returns-then-eq-clause-some c =
    let amounts = c.args.amounts.now in
    let grn = c.args.grn.now in
    let k = c.in_ok-kept.kept.now in
    let inside = c.in_ok-kept.ensures.lookup.0 in
    let within : c.in_ok-at.at < length amounts = grind (arith, nat_tests, inside) in
    let own : k.0 ≡ grn = (bytes_eq-Decides k.0 grn).0 (sym c.eq.ensures ∙ c.if-eq.true) in
    alone_at (λ k. k.0) c.args.country amounts grn c.in_ok-at.at c.requires within (sym c.serial.ensures ∙ c.in_ok-at.ensures.some)
    (λ d. ap (λ (x : List ℕ × ℕ). x.0) (get_or_default amounts c.in_ok-at.at d k within ∙ sym c.in_ok-kept.ensures.lookup.1) ∙ own)
