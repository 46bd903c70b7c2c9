use Rattle.std.proofs.Common.{◌≡◌, ◌∷◌, [], ◌++◌, ◌+◌, ◌<◌, ℕ, List, None, Some, length, map, take, get_or, sym, ◌∙◌, ap, subst}
use Rattle.std.specs.Prelude.{filter_map, option_map}
use Rattle.std.proofs.lemmas.List.{take_more, append-nil, map-append}
use Rattle.td_movement.specs.declared.line.Line.{Line}
use Rattle.td_holder_memory.proofs.Loading.{look, one_more}
use Rattle.td_holder_memory.proofs.lookups.guarantees_of.Goals as goal
use Rattle.td_holder_memory.proofs.lookups.guarantees_of.Goals.{in-Some+in_ok-copy+in_ok-push, in_default}

-- the guarantee of one more line, if it is there
pub loop-line-preserved : goal.loop-line-preserved
loop-line-preserved c =
    let seek = look c.args.guarantees.now in
    let items = c.args.lines.now in
    let n = c.loop-line.line-index in
    let line = c.loop-line-item.result in
    let within : n < length items = subst (λ (l : List (Line × List ℕ)). n < length l) c.as_slice-line-items.ensures.value c.loop-line-test.true in
    let at : line ≡ get_or items n line = subst (λ (l : List (Line × List ℕ)). line ≡ get_or l n line) c.as_slice-line-items.ensures.value c.loop-line-item.is in
    let more : take (n + 1) items ≡ take n items ++ line ∷ [] = take_more items n line within ∙ ap (λ s. take n items ++ s ∷ []) (sym at) in
    let before = map (λ e. e.0) c.loop-line.found.items in
    subst (λ l. map (λ e. e.0) c.match-find_by_grn.found.items ≡ filter_map seek l) (sym more) (elim c.match-find_by_grn.branch [
      | in-Some+in_ok-copy+in_ok-push w ↦
          one_more seek (take n items) line (Some w.in-Some.guarantee.now) before (map (λ e. e.0) c.match-find_by_grn.found.items)
          (sym c.find_by_grn.ensures ∙ ap (option_map (λ found. found.now)) w.in-Some.is) c.loop-line.invariant
          (ap (λ v. map (λ e. e.0) v.items) w.found-is ∙ ap (map (λ e. e.0)) w.in_ok-push.ensures.items ∙ map-append (λ e. e.0) c.loop-line.found.items _ ∙ ap (λ g. before ++ g ∷ []) w.in_ok-copy.ensures)
      | in_default w ↦
          one_more seek (take n items) line None before (map (λ e. e.0) c.match-find_by_grn.found.items)
          (sym c.find_by_grn.ensures ∙ ap (option_map (λ found. found.now)) w.in_default.is) c.loop-line.invariant
          (ap (λ v. map (λ e. e.0) v.items) w.found-is ∙ sym (append-nil before))
    ])
