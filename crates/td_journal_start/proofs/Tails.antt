-- The last row in the end of a file is the file's.
use Rattle.std.proofs.Common.{◌≡◌, ◌⊎◌, ℕ, ◌+◌, ◌<◌, ◌≤◌, List, [], ◌∷◌, ◌++◌, length, take, drop, Option, None, Some, inl, inr, refl, sym, ap, subst, ◌∙◌, arith, append_assoc, length-append}
use Rattle.std.proofs.lemmas.List.{append_cancel_left, take-append-drop, take-append-le, take_at}
use Rattle.td_journal_rows.specs.Rows.{HasNoLineFeed}
use Rattle.td_journal_lines.specs.Lines.{IsLine, Numbered}
use Rattle.td_journal_start.specs.Lines.{IsJournal, IsLast, IsNoJournal, tail}
use Rattle.td_journal_start.specs.Tails.{IsEndOf, IsFull}
use Rattle.td_journal_rows.specs.Rows.{IsOneLine}
use Rattle.td_journal_start.specs.Texts.{HasLast, IsWhole}
use Rattle.td_journal_start.specs.declared.tail.Tail.{Tail}
use Rattle.td_journal_start.proofs.Reading.{journal_last}
use Rattle.td_journal_start.proofs.Splitting.{last_once, line_whole, some_line}

no_bytes : (text : List ℕ) → length text ≡ 0 → text ≡ []
no_bytes [] none = refl
no_bytes (c ∷ text) none = absurd (omega (arith, none))

-- whole lines behind whatever stands before them
front_whole : (front before : List ℕ) → IsWhole before → (0 < length before) ⊎ (length front ≡ 0) → IsWhole (front ++ before)
front_whole front before (inl none) (inl some) = let size : length before ≡ 0 = ap length none in absurd (omega (arith, size, some))
front_whole front before (inl none) (inr first) = inl (ap (λ (t : List ℕ). t ++ before) (no_bytes front first) ∙ none)
front_whole front before (inr (lines, is)) place = inr (front ++ lines, ap (λ (t : List ℕ). front ++ t) is ∙ sym (append_assoc front lines (10 ∷ [])))

module _ (t : Tail) (bytes : List ℕ) (full : IsFull t) (end : IsEndOf t bytes) (before line torn : List ℕ) (last : HasLast t.bytes.items before line torn) where
  sizes : length bytes ≡ t.before + length t.bytes.items
  sizes = ap length end.bytes_are ∙ (length-append end.front t.bytes.items ∙ ap (λ n. n + length t.bytes.items) end.size)

  parts : length t.bytes.items ≡ length before + length line + length torn
  parts =
      ap length last.split.bytes_are ∙ (length-append (before ++ line) torn ∙ ap (λ n. n + length torn) (length-append before line))

  all : bytes ≡ ((end.front ++ before) ++ line) ++ torn
  all =
      end.bytes_are ∙ (ap (λ (x : List ℕ). end.front ++ x) last.split.bytes_are
      ∙ (sym (append_assoc end.front (before ++ line) torn) ∙ ap (λ (x : List ℕ). x ++ torn) (sym (append_assoc end.front before line))))

  text_size : length ((end.front ++ before) ++ line) ≡ t.before + (length before + length line)
  text_size =
      length-append (end.front ++ before) line ∙ (ap (λ n. n + length line) (length-append end.front before)
      ∙ (let front = end.size in omega (arith, front)))

  -- the beginning of the line is in what was read
  abbrev pub Begins : Type 0
  Begins = (0 < length before) ⊎ (t.before ≡ 0)

  front_first : Begins → (0 < length before) ⊎ (length end.front ≡ 0)
  front_first (inl some) = inl some
  front_first (inr none) = inr (end.size ∙ none)

  line_near : Begins → (length line + length torn < tail) ⊎ (length bytes ≤ tail)
  line_near (inl some) = let most = full.most in inl (omega (arith, parts, some, most))
  line_near (inr none) = let most = full.most in inr (omega (arith, sizes, none, most))

  pub row_end : (place : ℕ) → place ≡ length before + length line → t.before + place ≤ length bytes
  row_end place is = omega (arith, sizes, parts, is)

  -- its row
  pub found_row : (r : Numbered) (place : ℕ) → place ≡ length before + length line → Begins → IsLine r line → IsJournal bytes (take (t.before + place) bytes) (Some r)
  found_row r place is begins of_row = record {
    before = end.front ++ before;
    line = line;
    torn = torn;
    bytes_are = all ∙ ap (λ (x : List ℕ). x ++ torn) (sym text);
    text_is = text;
    last_is = (front_whole end.front before last.before_whole (front_first begins), of_row);
    torn_is = last.split.none;
    near = line_near begins;
  }
    where
      text : take (t.before + place) bytes ≡ (end.front ++ before) ++ line
      text =
          ap (take (t.before + place)) all
          ∙ take_at ((end.front ++ before) ++ line) torn (t.before + place) (text_size ∙ ap (λ n. t.before + n) (sym is))

  -- of the whole file it is the last line
  whole_last : Begins → IsOneLine line → HasLast bytes (end.front ++ before) line torn
  whole_last begins one = record {
    split = record {
      bytes_are = all;
      whole = line_whole (end.front ++ before) line one;
      none = last.split.none;
    };
    before_whole = front_whole end.front before last.before_whole (front_first begins);
    line_is = inl one;
  }

  -- where it is no row the file is no journal
  pub no_row : Begins → IsOneLine line → ((r : Numbered) → IsLine r line → ⊥) → IsNoJournal bytes
  no_row begins one none text row journal =
      let same = last_once bytes (end.front ++ before) line torn journal.before journal.line journal.torn (whole_last begins one) (journal_last bytes text row journal) in
      by row journal.before (subst (λ (x : List ℕ). IsLast journal.before x row) (sym same.1) journal.last_is)
    where
      by : (row : Option Numbered) (b : List ℕ) → IsLast b line row → ⊥
      by None b is = let size : length line ≡ 0 = ap length is.1 in omega (arith, size, some_line line one)
      by (Some r) b is = none r is.1

-- a file of no line
pub found_none : (t : Tail) (bytes : List ℕ) → IsFull t → IsEndOf t bytes → HasLast t.bytes.items [] [] t.bytes.items → t.before ≡ 0 → IsJournal bytes (take 0 bytes) None
found_none t bytes full end last none =
    let front : end.front ≡ [] = no_bytes end.front (end.size ∙ none) in
    let same : bytes ≡ t.bytes.items = end.bytes_are ∙ ap (λ (x : List ℕ). x ++ t.bytes.items) front in
    let most = full.most in
    let size : length bytes ≡ length t.bytes.items = ap length same in
    record {
      before = [];
      line = [];
      torn = bytes;
      bytes_are = refl;
      text_is = refl;
      last_is = (refl, refl);
      torn_is = subst HasNoLineFeed (sym same) last.split.none;
      near = inr (omega (arith, size, most));
    }

-- parts of one text: what is longer at the front has the shorter one, and more
longer : (a b c d : List ℕ) → a ++ b ≡ c ++ d → length a ≤ length c → (more : List ℕ) × (c ≡ a ++ more) × (b ≡ more ++ d)
longer a b c d same less =
    let split : take (length a) c ++ drop (length a) c ≡ c = take-append-drop (length a) c in
    let front : take (length a) c ≡ a =
    sym (take-append-le (length a) c d less) ∙ (ap (take (length a)) (sym same) ∙ take_at a b (length a) refl) in
    let whole : c ≡ a ++ drop (length a) c = sym split ∙ ap (λ (x : List ℕ). x ++ drop (length a) c) front in (
      drop (length a) c,
      whole,
      append_cancel_left a b (drop (length a) c ++ d) (same ∙ (ap (λ (x : List ℕ). x ++ d) whole ∙ append_assoc a (drop (length a) c) d)),
    )

-- the rest of whole lines is whole
rest_whole : (front rest : List ℕ) → IsWhole (front ++ rest) → 0 < length rest → IsWhole rest
rest_whole front rest (inl none) some = let size : length front + length rest ≡ 0 = sym (length-append front rest) ∙ ap length none in absurd (omega (arith, size, some))
rest_whole front rest (inr (lines, is)) some =
    let size : length front + length rest ≡ length lines + 1 = sym (length-append front rest) ∙ (ap length is ∙ length-append lines (10 ∷ [])) in
    let cut = longer front rest lines (10 ∷ []) is (omega (arith, size, some)) in
    inr (cut.0, cut.2)

-- where the last line begins before what was read the file is no journal
pub too_far : (t : Tail) (bytes : List ℕ) → IsFull t → IsEndOf t bytes → (line torn : List ℕ) → HasLast t.bytes.items [] line torn → 0 < t.before → IsNoJournal bytes
too_far t bytes full end line torn last some text row journal = by journal.near
  where
    size : length bytes ≡ t.before + tail
    size = ap length end.bytes_are ∙ (length-append end.front t.bytes.items ∙ (let front = end.size in let items = full.full some in omega (arith, front, items)))

    whole : end.front ++ t.bytes.items ≡ journal.before ++ (journal.line ++ journal.torn)
    whole =
        sym end.bytes_are ∙ (journal.bytes_are ∙ (ap (λ (x : List ℕ). x ++ journal.torn) journal.text_is ∙ append_assoc journal.before journal.line journal.torn))

    parts : t.before + tail ≡ length journal.before + (length journal.line + length journal.torn)
    parts = sym size ∙ (ap length (end.bytes_are ∙ whole) ∙ (length-append journal.before (journal.line ++ journal.torn) ∙ ap (λ n. length journal.before + n) (length-append journal.line journal.torn)))

    whole_by : (cut : List ℕ) → IsWhole cut → 0 < length cut → IsOneLine journal.line ⊎ ((journal.before ≡ []) × (journal.line ≡ [])) → (journal.before ≡ [] → ⊥) → IsWhole (cut ++ journal.line)
    whole_by cut rest more (inl one) not = line_whole cut journal.line one
    whole_by cut rest more (inr none) not = absurd (not none.0)

    line_by : {P : Type 0} → IsOneLine journal.line ⊎ ((journal.before ≡ []) × (journal.line ≡ [])) → (journal.before ≡ [] → ⊥) → IsOneLine journal.line ⊎ P
    line_by (inl one) not = inl one
    line_by (inr none) not = absurd (not none.0)

    far : length journal.line + length journal.torn < tail → ⊥
    far near =
        let front = end.size in
        let less : length end.front ≤ length journal.before = omega (arith, parts, near, front) in
        let cut = longer end.front t.bytes.items journal.before (journal.line ++ journal.torn) whole less in
        let more : 0 < length cut.0 = (let both : length journal.before ≡ length end.front + length cut.0 = ap length cut.1 ∙ length-append end.front cut.0 in omega (arith, both, parts, near, front)) in
        let is = journal_last bytes text row journal in
        let rest : IsWhole cut.0 = rest_whole end.front cut.0 (subst IsWhole cut.1 is.before_whole) more in
        let same = last_once t.bytes.items [] line torn cut.0 journal.line journal.torn last (record {
          split = record {
            bytes_are = cut.2 ∙ sym (append_assoc cut.0 journal.line journal.torn);
            whole = whole_by cut.0 rest more is.line_is (λ none. let first : length journal.before ≡ 0 = ap length none in omega (arith, first, less, more, parts, near, front));
            none = is.split.none;
          };
          before_whole = rest;
          line_is = line_by is.line_is (λ none. let first : length journal.before ≡ 0 = ap length none in omega (arith, first, less, more, parts, near, front));
        }) in
        let none : length cut.0 ≡ 0 = ap length (sym same.0) in
        omega (arith, none, more)

    by : (length journal.line + length journal.torn < tail) ⊎ (length bytes ≤ tail) → ⊥
    by (inl near) = far near
    by (inr all) = omega (arith, all, size, some)
