-- A file that was cut to a text, or was to be.
use Rattle.std.proofs.Common.{◌≡◌, ℕ, List, length, take, Option, None, Some, inl, inr, sym, ap, subst, ◌∙◌, arith}
use Rattle.std.specs.Prelude.{IsTrue}
use Rattle.std.proofs.lemmas.List.{length-take-le, take_all}
use Rattle.sqlite_disk.specs.Disk.{Cut, Follows}
use Rattle.sqlite_disk.specs.declared.Disk.{Ghosts}
use Rattle.td_desk.specs.View.{DeskView}
use Rattle.td_journal.proofs.Prefixes.{cut_prefix, safe_cut}
use Rattle.td_journal_start.specs.Begun.{IsUntaken}
use Rattle.td_journal_lines.specs.Lines.{Numbered}
use Rattle.td_journal_start.specs.Lines.{IsJournal}
use Rattle.td_journal_start.specs.Rows.{last_seen}
use Rattle.td_journal_start.specs.Starts.{IsAsFound, IsKept, IsStartRefused}
use Rattle.td_journal_start.specs.Tails.{IsFound}
use Rattle.td_journal_start.specs.declared.refused.StartFault.{StartFault}
use Rattle.td_journal_start.specs.declared.refused.StartFault.TheVariants.{BadJournal, ForeignRow, NoMemory, Store}
use Rattle.td_journal_start.specs.declared.tail.Found.{Found}

-- a last row that isn't taken leaves the file
pub refused_at : {D F : Type 0} (view : DeskView D) (g : Ghosts F) (desk new : D) (file left : F) (text : List ℕ) (last : Option Numbered) (why : StartFault) → IsAsFound g file left
    → (IsTrue (g.is_clean left) → IsJournal (g.seen file) text last) → IsUntaken view desk last why new → IsStartRefused view g desk file why new left
refused_at view g desk new file left text None why file_is found untaken = absurd untaken
refused_at view g desk new file left text (Some r) BadJournal file_is found untaken = absurd untaken
refused_at view g desk new file left text (Some r) (ForeignRow row) file_is found untaken =
    (r, untaken.0, record { asked = untaken.1; file_is = file_is; found = λ clean. (text, found clean) })
refused_at view g desk new file left text (Some r) NoMemory file_is found untaken =
    inr (r, record { asked = untaken; file_is = file_is; found = λ clean. (text, found clean) })
refused_at view g desk new file left text (Some r) Store file_is found untaken =
    inr (inl (r, record { asked = untaken; file_is = file_is; found = λ clean. (text, found clean) }))

module _ {F : Type 0} (g : Ghosts F) (file mid left : F) (found : Found) (file_is : IsAsFound g file mid) (is : IsFound (g.seen file) found) (cut : Cut found.end (g.seen mid) (g.seen left)) where
  -- it begins with the text
  begins : take found.end (g.seen left) ≡ take found.end (g.seen file)
  begins =
      let same = file_is.seen in
      cut_prefix found.end (g.seen file) (g.seen left) is.within (subst (λ (b : List ℕ). Cut found.end b (g.seen left)) same cut)

  -- and is it, where it has its length
  pub cut_text : length (g.seen left) ≡ found.end → IsJournal (g.seen file) (g.seen left) (last_seen found.last)
  cut_text size =
      let all : take found.end (g.seen file) ≡ g.seen left = sym begins ∙ take_all found.end (g.seen left) (omega (arith, size)) in
      subst (λ (t : List ℕ). IsJournal (g.seen file) t (last_seen found.last)) all is.journal

  -- so does what a crash leaves
  pub kept_text : Follows (Cut found.end) (g.may_leave mid) (g.may_leave left) → IsKept g file (last_seen found.last) left
  kept_text crash = record {
    text = take found.end (g.seen file);
    found = is.journal;
    begins = at (g.seen left) begins;
    leaves = λ safe bytes may.
        at bytes (safe_cut (g.may_leave file) (g.may_leave left) found.end (g.seen file) is.within (λ b before. back b (safe b before))
        (λ b after. (let from = crash b after in (from.0, file_is.leaves from.0 from.1, from.2))) bytes may);
  }
    where
      size : length (take found.end (g.seen file)) ≡ found.end
      size = length-take-le found.end (g.seen file) is.within

      at : (b : List ℕ) → take found.end b ≡ take found.end (g.seen file) → take (length (take found.end (g.seen file))) b ≡ take found.end (g.seen file)
      at b same = ap (λ n. take n b) size ∙ same

      back : (b : List ℕ) → take (length (take found.end (g.seen file))) b ≡ take found.end (g.seen file) → take found.end b ≡ take found.end (g.seen file)
      back b same = ap (λ n. take n b) (sym size) ∙ same
