use Rattle.std.proofs.Common.{◌≡◌, ◌≢◌, ℕ, suc, ◌<◌, List, [], ◌∷◌, length, Bool, true, false, refl, sym, ◌∙◌, arith, get_or, rules}
use Rattle.std.proofs.lemmas.Bool.{false≢true}
use Rattle.std.proofs.lemmas.Bool.Decides.{Decides-and, Decides-like, Decides-not, same_from_decides}
use Rattle.std.proofs.lemmas.List.Kept.{AllPairs-cons}
use Rattle.std.proofs.lemmas.Slice.Eq.{bytes_eq-Decides}
use Rattle.std.specs.Bool.{Decides}
use Rattle.std.specs.Prelude.{AllPairs, not}
use Rattle.std.specs.Str.{bytes_eq}
use Rattle.td_base.proofs.Decided.{all_decided, le_decided}
use Rattle.std.proofs.lemmas.List.{get_or_default}
use Rattle.td_movement.specs.declared.line.Line.{Line}
use Rattle.td_commands.specs.Lines.{IsLineAmount, IsLines, are_distinct, are_lines, is_line_amount}
use Rattle.td_commands.proofs.Earlier.{named_by_none, named_by_one, up_to}
use Rattle.td_commands.proofs.lines.are_lines.Goals as goal
use Rattle.td_commands.proofs.lines.are_lines.Goals.{then-not-is_line_amount-via-then-not-is_line_amount, then-not-is_line_amount-via-else-not-is_line_amount+then-is_named}
use Rattle.td_movement.specs.Lines.{most_lines, most_line_cents}

-- the test that no two lines are on one guarantee is right
distinct_decided : (lines : List (Line × List ℕ)) → Decides (are_distinct lines) (AllPairs (λ l m. l.0.grn ≢ m.0.grn) lines)
distinct_decided [] = (λ _ i j d before within. absurd (omega arith), λ _. refl)
distinct_decided (line ∷ lines) =
    Decides-like (are_distinct (line ∷ lines))
    (λ h. AllPairs-cons (λ l m. l.0.grn ≢ m.0.grn) line lines h.0 h.1)
    (λ h. (λ k d within. h 0 (suc k) d (omega arith) (omega arith), λ i j d before within. h (suc i) (suc j) d (omega arith) (omega arith)))
    (Decides-and _ _
    (all_decided (λ later. not (bytes_eq line.0.grn later.0.grn)) (λ later. line.0.grn ≢ later.0.grn) (λ later. Decides-not _ (bytes_eq-Decides line.0.grn later.0.grn)) lines)
    (distinct_decided lines))

-- the test of a line's amount is right
amount_decided : (line : Line × List ℕ) → Decides (is_line_amount line.0.cents) (IsLineAmount line.0.cents)
amount_decided line = Decides-and _ _ (le_decided 1 line.0.cents) (le_decided line.0.cents most_line_cents)

-- the test of a declaration's lines is right
lines_decided : (lines : List (Line × List ℕ)) → Decides (are_lines lines) (IsLines lines)
lines_decided lines =
    Decides-like (are_lines lines)
    (λ h. record { some = h.0.0.0; most = h.0.0.1; amounts = h.0.1; distinct = h.1 })
    (λ h. (((h.some, h.most), h.amounts), h.distinct))
    (Decides-and _ _ (Decides-and _ _ (Decides-and _ _ (le_decided 1 (length lines)) (le_decided (length lines) most_lines))
    (all_decided (λ line. is_line_amount line.0.cents) (λ line. IsLineAmount line.0.cents) amount_decided lines)) (distinct_decided lines))

-- what is true just of a declaration's lines is the test
same_test : (lines : List (Line × List ℕ)) (r : Bool) → Decides r (IsLines lines) → r ≡ are_lines lines
same_test lines r h = same_from_decides r (are_lines lines) h (lines_decided lines)

-- these are no lines of a declaration, as this one is of no good amount, or names the guarantee of an earlier one
pub returns-then-not-is_line_amount : goal.returns-then-not-is_line_amount
returns-then-not-is_line_amount c =
    let i = c.loop-i.i in
    let items = c.args.items.now in
    let line = c.index-items-i.result in
    let none : IsLines items → false ≡ true = λ lines. elim c.then-not-is_line_amount.branch [
      | then-not-is_line_amount-via-then-not-is_line_amount w ↦
          let good : c.is_line_amount.result ≡ true = c.is_line_amount.ensures.form.1 (lines.amounts i line c.loop-i-test.true) in
          let bad : c.is_line_amount.result ≡ false = w.if-not-is_line_amount.true in
          absurd (cc)
      | then-not-is_line_amount-via-else-not-is_line_amount+then-is_named w ↦
          let found = named_by_one (get_or items i line).0.grn items i (sym w.is_named.ensures ∙ w.if-is_named.true) (omega arith) in
          absurd (lines.distinct found.0 i line found.1 c.loop-i-test.true (found.2 line))
    ] in
    let form : Decides false (IsLines items) = (λ t. absurd (false≢true t), none) in
    record { value = same_test items false form; form = form }

-- lines before and this one: good amounts, different guarantees
pub loop-i-preserved : goal.loop-i-preserved
loop-i-preserved c =
    let i = c.loop-i.i in
    let line = c.index-items-i.result in
    let items = c.args.items.now in
    let there : (d : Line × List ℕ) → get_or items i d ≡ get_or items i line = λ d. get_or_default items i d line c.loop-i-test.true in
    record {
      amounts = λ j d before. up_to (λ k. IsLineAmount (get_or items k d).0.cents) i (λ k less. c.loop-i.invariant.amounts k d less) (rw (there d) (c.is_line_amount.ensures.form.0 c.if-not-is_line_amount.false)) j before;
      distinct = λ j k d before within. up_to (λ m. j < m → (get_or items j d).0.grn ≢ (get_or items m d).0.grn) i (λ m less h. c.loop-i.invariant.distinct j m d h less)
          (λ less. rw (there d) (named_by_none (get_or items i line).0.grn items i j d (sym c.is_named.ensures ∙ c.if-is_named.false) less (omega (arith, c.loop-i-test.true)))) k within before;
    }

pub returns-clause-value : goal.returns-clause-value
returns-clause-value c =
    let is : IsLines c.args.items.now = search rules in
    same_test c.args.items.now true (λ _. is, λ _. refl)
