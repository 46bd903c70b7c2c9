use Rattle.std.proofs.Common.{◌≡◌, Bool, true, false, slice_index_or}
use Rattle.std.specs.Str.{bytes_eq}
use Rattle.std.proofs.Common.{Decides, ◌∙◌, sym, ap, refl}
use Rattle.std.proofs.lemmas.Slice.Eq.{bytes_eq-Decides}
use Rattle.td_base.proofs.grn.GrnPartialEq.eq.Goals.{then-self-other-via-then-self-other, then-self-other-via-else-self-other+then-self-other-2}
use Rattle.td_base.proofs.grn.GrnPartialEq.eq.Goals as goal

-- src/grn.rt:92:13
pub returns-then-self-other : goal.returns-then-self-other
returns-then-self-other c = by (bytes_eq c.args.self.now c.args.other.now) (bytes_eq-Decides c.args.self.now c.args.other.now)
  where
    inside : c.args.self.now ≡ c.args.other.now → c.self.inside.bytes ≡ c.other.inside.bytes
    inside same = c.self.view_is ∙ same ∙ sym c.other.view_is

    apart : c.args.self.now ≡ c.args.other.now → ⊥
    apart same = elim c.then-self-other.branch [
      | then-self-other-via-then-self-other w ↦ w.if-self-other.true (ap (λ bytes. slice_index_or bytes 16 0) (inside same))
      | then-self-other-via-else-self-other+then-self-other-2 w ↦ w.if-self-other-2.true (ap (λ bytes. slice_index_or bytes 15 0) (inside same))
    ]

    by : (v : Bool) → Decides v (c.args.self.now ≡ c.args.other.now) → false ≡ v
    by true d = absurd (apart (d.0 refl))
    by false d = refl
