-- Bytes are a journal with one text and one last row.
use Rattle.std.proofs.Common.{◌≡◌, ◌⊎◌, ℕ, List, [], ◌++◌, length, Option, None, Some, inl, inr, refl, sym, ap, subst, ◌∙◌, arith}
use Rattle.td_journal_lines.specs.Lines.{IsLine, Numbered}
use Rattle.td_journal_lines.proofs.Reading.{line_of_one, line_one}
use Rattle.td_journal_rows.specs.Rows.{IsOneLine}
use Rattle.td_journal_start.specs.Lines.{IsJournal, IsLast}
use Rattle.td_journal_start.specs.Texts.{HasLast, IsWhole}
use Rattle.td_journal_start.proofs.Splitting.{last_once, line_whole, some_line}

-- a journal's last line
last_of : (last : Option Numbered) (before line : List ℕ) → IsLast before line last
    → IsWhole before × IsWhole (before ++ line) × (IsOneLine line ⊎ ((before ≡ []) × (line ≡ [])))
last_of None before line none = (inl none.0, inl (ap (λ (t : List ℕ). t ++ line) none.0 ∙ none.1), inr none)
last_of (Some r) before line is = let one = line_one r line is.1 in (is.0, line_whole before line one, inl one)

pub journal_last : (bytes text : List ℕ) (last : Option Numbered) (j : IsJournal bytes text last) → HasLast bytes j.before j.line j.torn
journal_last bytes text last j =
    let is = last_of last j.before j.line j.last_is in
    record {
      split = record {
        bytes_are = j.bytes_are ∙ ap (λ (t : List ℕ). t ++ j.torn) j.text_is;
        whole = is.1;
        none = j.torn_is;
      };
      before_whole = is.0;
      line_is = is.2;
    }

pub same_last : (one two : Option Numbered) (b c line : List ℕ) → IsLast b line one → IsLast c line two → one ≡ two
same_last None None b c line is other = refl
same_last None (Some r) b c line is other =
    let none : length line ≡ 0 = ap length is.1 in absurd (omega (arith, none, some_line line (line_one r line other.1)))
same_last (Some r) None b c line is other =
    let none : length line ≡ 0 = ap length other.1 in absurd (omega (arith, none, some_line line (line_one r line is.1)))
same_last (Some r) (Some q) b c line is other = ap Some (line_of_one r q line is.1 other.1)

pub journal_once : (bytes text other_text : List ℕ) (last other : Option Numbered) → IsJournal bytes text last → IsJournal bytes other_text other → (text ≡ other_text) × (last ≡ other)
journal_once bytes text other_text last other one two =
    let same = last_once bytes one.before one.line one.torn two.before two.line two.torn (journal_last bytes text last one) (journal_last bytes other_text other two) in (
      one.text_is ∙ (ap (λ (t : List ℕ). t ++ one.line) same.0 ∙ (ap (λ (t : List ℕ). two.before ++ t) same.1 ∙ sym two.text_is)),
      same_last last other one.before two.before two.line (subst (λ (t : List ℕ). IsLast one.before t last) same.1 one.last_is) two.last_is,
    )
