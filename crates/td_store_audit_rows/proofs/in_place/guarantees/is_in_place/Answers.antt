use Rattle.std.proofs.Common.{◌≡◌, ◌∙◌, Some, true, ap, refl, sym, subst, take, arith}
use Rattle.std.proofs.lemmas.Bool.{false≢true}
use Rattle.ascii_text.proofs.Decimals.{digits_value-fixed_decimal}
use Rattle.ascii_text.specs.Digits.{digits_value}
use Rattle.td_base.specs.References.{IsGrn, grn_text}
use Rattle.std.specs.Str.{bytes_eq}
use Rattle.std.proofs.lemmas.Slice.Eq.{bytes_eq-Decides}
use Rattle.td_base.proofs.Checked.{some_of}
use Rattle.td_base.proofs.MadeReferences.{made_parts}
use Rattle.td_store_audit_rows.proofs.in_place.guarantees.is_in_place.Goals as goal

-- the year in a GRN can be read
pub returns-in_default : goal.returns-in_default
returns-in_default c serial =
    let form : IsGrn c.as_bytes.result.now = subst IsGrn (sym c.as_bytes.ensures.value) c.as_bytes.ensures.form in
    absurd (c.in_default.ensures.value form.form.year)

-- it has no GRN of any year, as it hasn't that of the year that stands in it
pub returns-else-eq : goal.returns-else-eq
returns-else-eq c serial = (
  λ t. absurd (false≢true (sym c.if-eq.false ∙ t)),
  λ kept.
      let row = c.args.row.now in
      let text = row.guarantee.grn in
      let y = kept.grn.0 in
      let parts = made_parts 6 y c.args.country row.holder row.serial c.as_bytes-letters.ensures.form in
      let shown : digits_value (take 2 text) ≡ y = ap (λ t. digits_value (take 2 t)) kept.grn.2 ∙ ap digits_value parts.year ∙ digits_value-fixed_decimal 2 y ∙ omega (arith, kept.grn.1) in
      let same : c.in-Some.year ≡ y = c.in-Some.ensures.value.1 ∙ ap (λ t. digits_value (take 2 t)) c.as_bytes.ensures.value ∙ shown in
      let made : c.make-made.result ≡ Some text = some_of c.make-made.result _ _ c.make-made.ensures (omega (arith, same, kept.grn.1), serial)
      ∙ ap (λ n. Some (grn_text n c.args.country row.holder row.serial)) same ∙ ap Some (sym kept.grn.2) in
      let equal : bytes_eq text text ≡ true = (bytes_eq-Decides text text).1 refl in
      c.eq.ensures ∙ rw made equal,
)
