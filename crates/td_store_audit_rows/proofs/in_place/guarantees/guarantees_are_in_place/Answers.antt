use Rattle.std.proofs.Common.{◌≡◌, ◌∙◌, ◌+◌, ap, refl, sym, subst, arith, map}
use Rattle.std.proofs.lemmas.Bool.{false≢true}
use Rattle.std.proofs.lemmas.List.{get_or_default, length-map}
use Rattle.td_base.specs.References.{IsGrnSerial}
use Rattle.td_table_model.specs.Gathering.{place}
use Rattle.td_store_rows.specs.GuaranteeTable.{guarantee_row_of}
use Rattle.td_store_rows.specs.declared.guarantees.stored.StoredGuarantee.{StoredGuarantee}
use Rattle.td_store_audit_rows.specs.InPlace.{AreNextGuarantees, IsGuaranteeInPlace}
use Rattle.td_store_audit_rows.proofs.Placed.{each_placed, one_more, placed}
use Rattle.td_store_audit_rows.proofs.in_place.guarantees.guarantees_are_in_place.Goals as goal
use Rattle.td_store_audit_rows.proofs.in_place.guarantees.guarantees_are_in_place.Goals.{then-rows-i-via-then-rows-i, then-rows-i-via-else-rows-i+then-not-is_in_place}

-- they are not, as this one isn't
pub returns-then-rows-i : goal.returns-then-rows-i
returns-then-rows-i c =
    let i = c.loop-i.i in
    let rows = c.args.rows.now in
    let keeps = λ (kept : AreNextGuarantees c.args.country c.args.before c.args.last (map guarantee_row_of rows)) (d : StoredGuarantee). each_placed guarantee_row_of place (IsGuaranteeInPlace c.args.country) c.args.before rows kept.serials kept.each i d c.loop-i-test.true in (
      λ t. absurd (false≢true t),
      λ kept. elim c.then-rows-i.branch [
        | then-rows-i-via-then-rows-i w ↦ absurd (w.if-rows-i.true ((keeps kept c.index-rows-i.result).0 ∙ omega arith))
        | then-rows-i-via-else-rows-i+then-not-is_in_place w ↦
            let d = w.index-rows-i-else-rows-i.result in
            let fact = subst (λ (x : StoredGuarantee). (x.serial ≡ c.args.before + (i + 1)) × IsGuaranteeInPlace c.args.country (guarantee_row_of x)) (sym w.index-rows-i-else-rows-i.is) (keeps kept d) in
            let serial : IsGrnSerial d.serial = (omega (arith, fact.0), omega (arith, fact.0, c.loop-i-test.true, c.if-rows-last.false, c.if-before-last.false, c.if-last-gt-GREATEST_GRN_SERIAL.false)) in
            absurd (false≢true (sym w.if-not-is_in_place.true ∙ (w.is_in_place.ensures serial).1 fact.1))
      ],
    )

-- they are: each one is
pub returns : goal.returns
returns c =
    let all = placed guarantee_row_of place (IsGuaranteeInPlace c.args.country) c.args.before c.args.rows.now (λ j d within. c.loop-i.invariant j d (omega (arith, within, c.loop-i-test.false))) in (
      λ t. record {
        serials = all.0;
        count = omega (arith, c.if-rows-last.false, c.if-before-last.false, length-map c.args.rows.now guarantee_row_of);
        most = c.if-last-gt-GREATEST_GRN_SERIAL.false;
        each = all.1;
      },
      λ kept. refl,
    )

-- one more is in its place
pub loop-i-preserved : goal.loop-i-preserved
loop-i-preserved c =
    let i = c.loop-i.i in
    let x = c.index-rows-i-else-rows-i.result in
    let serial : x.serial ≡ c.args.before + (i + 1) = ap (λ (r : StoredGuarantee). r.serial) (c.index-rows-i-else-rows-i.is ∙ get_or_default c.args.rows.now i x c.index-rows-i.result c.loop-i-test.true) ∙ c.if-rows-i.false ∙ omega arith in
    let in_range : IsGrnSerial x.serial = (omega (arith, serial), omega (arith, serial, c.loop-i-test.true, c.if-rows-last.false, c.if-before-last.false, c.if-last-gt-GREATEST_GRN_SERIAL.false)) in
    one_more guarantee_row_of place (IsGuaranteeInPlace c.args.country) c.args.before c.args.rows.now i x c.loop-i.invariant c.loop-i-test.true c.index-rows-i-else-rows-i.is serial ((c.is_in_place.ensures in_range).0 c.if-not-is_in_place.false)
