use Rattle.std.proofs.Common.{◌≡◌, ◌⊎◌, ◌<◌, ◌≤◌, ℕ, List, [], arith, drop, inl, inr, length, rules, subst, sym, take}
use Rattle.std.specs.Prelude.{slice_range}
use Rattle.td_journal_lines.specs.Lines.{IsLine, Numbered}
use Rattle.td_journal_lines.specs.Rows.{numbered}
use Rattle.td_journal_start.specs.Texts.{HasLast}
use Rattle.td_journal_start.proofs.Places.{before_size, one_at, place_is}
use Rattle.td_journal_start.proofs.Tails.{found_row, no_row, row_end, too_far}
use Rattle.td_journal_start.proofs.tail.found_in.Goals as goal
use Rattle.td_journal_start.proofs.tail.found_in.Goals.{else-begin-eq0-via-then-begin-eq0+else-tail-gt0, else-begin-eq0-via-else-begin-eq0}

abbrev LastAt : List ℕ → ℕ → ℕ → Type 0
LastAt text begin end = HasLast text (take begin text) (slice_range text begin end) (drop end text)

first_at : (text : List ℕ) (begin end : ℕ) → begin ≡ 0 → LastAt text begin end → HasLast text [] (slice_range text begin end) (drop end text)
first_at text begin end none last = subst (λ n. HasLast text (take n text) (slice_range text begin end) (drop end text)) none last

pub returns-then-tail-gt0-clause-none : goal.returns-then-tail-gt0-clause-none
returns-then-tail-gt0-clause-none c = λ none bytes full of_file.
    let place = c.last_line-begin.result in
    let items = c.args.tail.now.bytes.items in
    let last : LastAt items place.0 place.1 = subst (λ (t : List ℕ). LastAt t place.0 place.1) c.deref.ensures.value c.last_line-begin.ensures.last in
    too_far c.args.tail.now bytes full of_file (slice_range items place.0 place.1) (drop place.1 items) (first_at items place.0 place.1 c.if-begin-eq0.true last) c.if-tail-gt0.true

pub returns-in-Some-clause-found : goal.returns-in-Some-clause-found
returns-in-Some-clause-found c = λ bytes full of_file.
    let place = c.last_line-begin.result in
    let items = c.args.tail.now.bytes.items in
    let last : LastAt items place.0 place.1 = subst (λ (t : List ℕ). LastAt t place.0 place.1) c.deref.ensures.value c.last_line-begin.ensures.last in
    let below = c.last_line-begin.ensures.begin in
    let within : place.1 ≤ length items = subst (λ (t : List ℕ). place.1 ≤ length t) c.deref.ensures.value c.last_line-begin.ensures.end in
    let first : (0 < place.0) ⊎ (c.args.tail.now.before ≡ 0) =
    elim c.else-begin-eq0.branch [
      | else-begin-eq0-via-then-begin-eq0+else-tail-gt0 w ↦ inr (omega arith)
      | else-begin-eq0-via-else-begin-eq0 w ↦ inl (omega arith)
    ] in
    let begins : (0 < length (take place.0 items)) ⊎ (c.args.tail.now.before ≡ 0) = subst (λ n. (0 < n) ⊎ (c.args.tail.now.before ≡ 0)) (sym (before_size items place.0 place.1 below within)) first in
    let of_row : IsLine (numbered c.in-Some.row) (slice_range c.deref-2.result.now place.0 place.1) = search rules in
    let is : IsLine (numbered c.in-Some.row) (slice_range items place.0 place.1) = subst (λ (t : List ℕ). IsLine (numbered c.in-Some.row) (slice_range t place.0 place.1)) c.deref-2.ensures.value of_row in
    let end = place_is items place.0 place.1 below within in
    record {
      within = row_end c.args.tail.now bytes full of_file (take place.0 items) (slice_range items place.0 place.1) (drop place.1 items) last place.1 end;
      journal = found_row c.args.tail.now bytes full of_file (take place.0 items) (slice_range items place.0 place.1) (drop place.1 items) last (numbered c.in-Some.row) place.1 end begins is;
    }

pub returns-in-None-clause-none : goal.returns-in-None-clause-none
returns-in-None-clause-none c = λ none bytes full of_file.
    let place = c.last_line-begin.result in
    let items = c.args.tail.now.bytes.items in
    let last : LastAt items place.0 place.1 = subst (λ (t : List ℕ). LastAt t place.0 place.1) c.deref.ensures.value c.last_line-begin.ensures.last in
    let below = c.last_line-begin.ensures.begin in
    let within : place.1 ≤ length items = subst (λ (t : List ℕ). place.1 ≤ length t) c.deref.ensures.value c.last_line-begin.ensures.end in
    let first : (0 < place.0) ⊎ (c.args.tail.now.before ≡ 0) =
    elim c.else-begin-eq0.branch [
      | else-begin-eq0-via-then-begin-eq0+else-tail-gt0 w ↦ inr (omega arith)
      | else-begin-eq0-via-else-begin-eq0 w ↦ inl (omega arith)
    ] in
    let begins : (0 < length (take place.0 items)) ⊎ (c.args.tail.now.before ≡ 0) = subst (λ n. (0 < n) ⊎ (c.args.tail.now.before ≡ 0)) (sym (before_size items place.0 place.1 below within)) first in
    let no : (r : Numbered) → IsLine r (slice_range c.deref-2.result.now place.0 place.1) → ⊥ = c.in_ok-row.ensures.none c.in-None.is in
    let not : (r : Numbered) → IsLine r (slice_range items place.0 place.1) → ⊥ =
    subst (λ (t : List ℕ). (r : Numbered) → IsLine r (slice_range t place.0 place.1) → ⊥) c.deref-2.ensures.value no in
    no_row c.args.tail.now bytes full of_file (take place.0 items) (slice_range items place.0 place.1) (drop place.1 items) last begins
    (one_at items place.0 place.1 below within (drop place.1 items) last c.if-end-eq0.false) not
