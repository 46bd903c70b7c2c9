use Rattle.std.proofs.Common.{◌≡◌, ◌++◌, ◌∷◌, [], ◌∙◌, List, Result, Ok, Err, ap, subst, sym, cond, arith}
use Rattle.std.specs.Prelude.{OnOk, OnErr}
use Rattle.std.proofs.lemmas.List.Sums.{sum_by_push}
use Rattle.td_movement.specs.declared.movement.Movement.{Movement}
use Rattle.td_guarantee.specs.Usage.{lines_on, movement_on, used_on}
use Rattle.td_holder_memory.specs.Kept.{AreKept}
use Rattle.td_holder_memory.proofs.counted_rows.CountedRows.push.Goals as goal
use Rattle.td_holder_memory.proofs.counted_rows.CountedRows.push.Goals.{then-counts, else-counts}

-- a list to which something was put, or not
put_or_not : {V E : Type 0} (P : List Movement → Type 0) (r : Result V E) (new more old : List Movement) → OnOk r (new ≡ more) → OnErr r (new ≡ old) → P more → P old → P new
put_or_not P (Ok v) new more old ok err there here = subst P (sym ok) there
put_or_not P (Err e) new more old ok err there here = subst P (sym err) here

-- nothing is kept of a movement that counts, and one that doesn't has nothing in use
pub invariant_of-self : goal.invariant_of-self
invariant_of-self c =
    let old = c.self.inside.rows in
    let m = c.args.movement in
    let kept = c.if-counts.self-inside.amounts in
    let both : AreKept (λ grn. used_on grn (old ++ m ∷ [])) kept × AreKept (λ grn. used_on grn old) kept = elim c.if-counts.branch [
      | then-counts w ↦ (
        subst (λ i. AreKept (λ grn. used_on grn (old ++ m ∷ [])) i.amounts) (sym w.self-inside-is) (w.forget.ensures (λ grn. used_on grn (old ++ m ∷ []))),
        subst (λ i. AreKept (λ grn. used_on grn old) i.amounts) (sym w.self-inside-is) (w.forget.ensures (λ grn. used_on grn old)),
      )
      | else-counts w ↦ (
        λ flag grn. omega (
          arith,
          subst (λ i. AreKept (λ grn. used_on grn old) i.amounts) (sym w.self-inside-is) c.self.invariant flag grn,
          sum_by_push (movement_on grn) old m,
          ap (λ b. cond b (lines_on grn m.lines) 0) (sym c.counts.ensures ∙ w.if-counts.false),
        ),
        subst (λ i. AreKept (λ grn. used_on grn old) i.amounts) (sym w.self-inside-is) c.self.invariant,
      )
    ] in
    let rows : c.if-counts.self-inside.rows ≡ old = elim c.if-counts.branch [
      | then-counts w ↦ ap (λ i. i.rows) w.self-inside-is
      | else-counts w ↦ ap (λ i. i.rows) w.self-inside-is
    ] in
    put_or_not (λ ms. AreKept (λ grn. used_on grn ms) kept) c.push.result c.push.new.self (old ++ m ∷ []) old
    (subst (λ ms. OnOk c.push.result (c.push.new.self ≡ ms ++ m ∷ [])) rows c.push.ensures.ok) (subst (λ ms. OnErr c.push.result (c.push.new.self ≡ ms)) rows c.push.ensures.err) both.0 both.1
