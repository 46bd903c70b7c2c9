use Rattle.std.proofs.Common.{get_or, set, refl, sym, ◌∙◌, ap}
use Rattle.td_model.specs.Account.{coded}
use Rattle.td_holder_memory.proofs.BySerial.{one_made, none_made}
use Rattle.td_holder_memory.proofs.guarantee_rows.add_code_by_serial.Goals as goal

-- the one with the GRN has the code
pub returns-in_ok-add-clause-ok : goal.returns-in_ok-add-clause-ok
returns-in_ok-add-clause-ok c =
    let gs = c.args.guarantees.now in
    let d = c.index-guarantees-at.result in
    let now = get_or gs c.in-Some.at d in
    ap (λ codes. set gs c.in-Some.at (record now { codes = codes })) c.in_ok-add.ensures.ok ∙ sym (one_made (λ g. g.grn) c.args.grn.now (coded c.args.code) gs c.in-Some.at d c.in-Some.ensures.some)

-- none has the GRN
pub returns-in_default-clause-ok : goal.returns-in_default-clause-ok
returns-in_default-clause-ok c = sym (none_made (λ g. g.grn) c.args.grn.now (coded c.args.code) c.args.guarantees.now (c.in_default.ensures.none refl))
