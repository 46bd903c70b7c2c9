use Rattle.std.proofs.Common.{◌≡◌, ◌∙◌, ◌+◌, ap, refl, sym, subst, arith, map}
use Rattle.std.proofs.lemmas.Bool.{false≢true}
use Rattle.std.proofs.lemmas.List.{get_or_default, length-map}
use Rattle.td_table_model.specs.Gathering.{place}
use Rattle.td_store_rows.specs.MovementTable.{movement_row_of}
use Rattle.td_store_rows.specs.declared.movements.stored.StoredMovement.{StoredMovement}
use Rattle.td_store_audit_rows.specs.InPlace.{AreNextMovements, IsMovementInPlace}
use Rattle.td_store_audit_rows.proofs.Placed.{each_placed, one_more, placed}
use Rattle.td_store_audit_rows.proofs.in_place.movements.movements_are_in_place.Goals as goal
use Rattle.td_store_audit_rows.proofs.in_place.movements.movements_are_in_place.Goals.{then-rows-i-via-then-rows-i, then-rows-i-via-else-rows-i+then-not-is_in_place}

-- they are not, as this one isn't
pub returns-then-rows-i : goal.returns-then-rows-i
returns-then-rows-i c =
    let i = c.loop-i.i in
    let rows = c.args.rows.now in
    let keeps = λ (kept : AreNextMovements c.args.country c.args.before c.args.last (map movement_row_of rows)) (d : StoredMovement). each_placed movement_row_of place (IsMovementInPlace c.args.country) c.args.before rows kept.serials kept.each i d c.loop-i-test.true in (
      λ t. absurd (false≢true t),
      λ kept. elim c.then-rows-i.branch [
        | then-rows-i-via-then-rows-i w ↦ absurd (w.if-rows-i.true ((keeps kept c.index-rows-i.result).0 ∙ omega arith))
        | then-rows-i-via-else-rows-i+then-not-is_in_place w ↦
            let d = w.index-rows-i-else-rows-i.result in
            let fact = subst (λ (x : StoredMovement). (x.serial ≡ c.args.before + (i + 1)) × IsMovementInPlace c.args.country (movement_row_of x)) (sym w.index-rows-i-else-rows-i.is) (keeps kept d) in
            absurd (false≢true (sym w.if-not-is_in_place.true ∙ w.is_in_place.ensures.1 fact.1))
      ],
    )

-- they are: each one is
pub returns : goal.returns
returns c =
    let all = placed movement_row_of place (IsMovementInPlace c.args.country) c.args.before c.args.rows.now (λ j d within. c.loop-i.invariant j d (omega (arith, within, c.loop-i-test.false))) in (
      λ t. record {
        serials = all.0;
        count = omega (arith, c.if-rows-last.false, c.if-before-last.false, length-map c.args.rows.now movement_row_of);
        most = c.if-last-gt-GREATEST_OLDER_MRN_SERIAL.false;
        each = all.1;
      },
      λ kept. refl,
    )

-- one more is in its place
pub loop-i-preserved : goal.loop-i-preserved
loop-i-preserved c =
    let i = c.loop-i.i in
    let x = c.index-rows-i-else-rows-i.result in
    let serial : x.serial ≡ c.args.before + (i + 1) = ap (λ (r : StoredMovement). r.serial) (c.index-rows-i-else-rows-i.is ∙ get_or_default c.args.rows.now i x c.index-rows-i.result c.loop-i-test.true) ∙ c.if-rows-i.false ∙ omega arith in
    one_more movement_row_of place (IsMovementInPlace c.args.country) c.args.before c.args.rows.now i x c.loop-i.invariant c.loop-i-test.true c.index-rows-i-else-rows-i.is serial (c.is_in_place.ensures.0 c.if-not-is_in_place.false)
