use Rattle.std.proofs.Common.{◌∙◌, sym}
use Rattle.td_store_audit_rows.proofs.EitherForm.{in_the_older_form}
use Rattle.td_store_audit_rows.proofs.in_place.movements.has_mrn.Goals as goal

-- it hasn't the MRN with the letter: so it has the right one where it has that of the older form
pub returns-else-eq : goal.returns-else-eq
returns-else-eq c =
    let row = c.args.row.now in
    let told = in_the_older_form c.make.result c.make_older.result c.year2-year2.result row.movement.accepted c.args.country row.holder row.serial row.movement.mrn
    c.year2-year2.ensures c.make.ensures c.make_older.ensures (sym c.eq.ensures ∙ c.if-eq.false) in
    (λ t. told.0 (sym c.eq-else-eq.ensures ∙ t), λ of. c.eq-else-eq.ensures ∙ told.1 of)
