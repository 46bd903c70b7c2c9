use Rattle.std.proofs.Common.{◌≡◌, ◌+◌, ◌<◌, length, get_or, refl, sym, ◌∙◌, ap, arith}
use Rattle.std.proofs.lemmas.Bool.Decides.{nat_tests}
use Rattle.std.proofs.lemmas.List.{get_or_default}
use Rattle.std.proofs.lemmas.Slice.Eq.{bytes_eq-Decides}
use Rattle.td_movement.specs.declared.movement.Movement.{Movement}
use Rattle.td_holder_memory.proofs.BySerial.{one_serial, none_has, alone_at}
use Rattle.td_holder_memory.proofs.movement_rows.find_by_serial.Goals as goal

-- the MRN has no serial here
pub returns-in_err-at-clause-none : goal.returns-in_err-at-clause-none
returns-in_err-at-clause-none c = λ none. none_has (λ m. m.mrn) c.args.country c.args.movements.now c.args.mrn.now c.requires (λ k d within serial is. c.in_err-at.ensures.none refl k (c.serial.ensures ∙ serial))

-- the place is behind all movements
pub returns-in_err-movement-clause-none : goal.returns-in_err-movement-clause-none
returns-in_err-movement-clause-none c = λ none.
    none_has (λ m. m.mrn) c.args.country c.args.movements.now c.args.mrn.now c.requires (λ k d within serial is.
    let place : c.in_ok-at.at ≡ k = omega (arith, one_serial (c.in_ok-at.at + 1) (k + 1) (sym c.in_ok-at.ensures.some ∙ c.serial.ensures ∙ serial)) in
    let behind = c.in_err-movement.ensures.lookup.0 in
    grind (arith, nat_tests, within, behind, place))

-- the movement there has another MRN
pub returns-clause-none : goal.returns-clause-none
returns-clause-none c = λ none.
    let movements = c.args.movements.now in
    let mrn = c.args.mrn.now in
    let m = c.in_ok-movement.movement.now in
    none_has (λ m. m.mrn) c.args.country movements mrn c.requires (λ k d within serial is.
    let place : c.in_ok-at.at ≡ k = omega (arith, one_serial (c.in_ok-at.at + 1) (k + 1) (sym c.in_ok-at.ensures.some ∙ c.serial.ensures ∙ serial)) in
    let there : get_or movements k m ≡ m = ap (λ n. get_or movements n m) (sym place) ∙ sym c.in_ok-movement.ensures.lookup.1 in
    let own : m.mrn ≡ mrn = ap (λ (x : Movement). x.mrn) (sym there ∙ get_or_default movements k m d within) ∙ is in
    let equal = c.eq.ensures ∙ (bytes_eq-Decides m.mrn mrn).1 own in
    let other = c.if-eq.false in
    cc)

-- the movement there has the MRN
pub returns-then-eq-clause-some : goal.returns-then-eq-clause-some
returns-then-eq-clause-some c =
    let movements = c.args.movements.now in
    let mrn = c.args.mrn.now in
    let m = c.in_ok-movement.movement.now in
    let inside = c.in_ok-movement.ensures.lookup.0 in
    let within : c.in_ok-at.at < length movements = grind (arith, nat_tests, inside) in
    let own : m.mrn ≡ mrn = (bytes_eq-Decides m.mrn mrn).0 (sym c.eq.ensures ∙ c.if-eq.true) in
    alone_at (λ m. m.mrn) c.args.country movements mrn c.in_ok-at.at c.requires within (sym c.serial.ensures ∙ c.in_ok-at.ensures.some)
    (λ d. ap (λ (x : Movement). x.mrn) (get_or_default movements c.in_ok-at.at d m within ∙ sym c.in_ok-movement.ensures.lookup.1) ∙ own)
