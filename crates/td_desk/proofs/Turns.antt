-- What one more command adds to a run. No command and no list of rows is named here.
use Rattle.std.proofs.Common.{◌≡◌, ◌≢◌, ℕ, Bool, true, false, List, [], ◌∷◌, ◌++◌, length, Option, Some, None, refl, sym, ◌∙◌, ap, subst, arith}
use Rattle.std.specs.Prelude.{if◌then◌else◌}
use Rattle.std.specs.List.{AllZip}
use Rattle.std.proofs.lemmas.Bool.Decides.{nat_tests}
use borrow.Author.Tests.{eqb-true, eq-eqb, both_ways}
use Rattle.std.proofs.lemmas.List.{append-nil, length-append}
use Rattle.std.proofs.lemmas.Slice.Zip.{all_zipped_more}
use Rattle.td_commands.specs.declared.command.Stamped.{Stamped}
use Rattle.td_commands.specs.declared.said.Said.{Said}
use Rattle.td_model.specs.Account.{Account, empty_account, ReferencesDiffer}
use Rattle.td_model.specs.Book.{Book, account_of}
use Rattle.td_commands.specs.Commands.{owner_of}
use Rattle.td_model.specs.Table.{said}
use Rattle.td_model.specs.Machine.{verdict, book_after, machine_says, machine_book, IsGrown}
use Rattle.td_model.specs.Changes.{account_after}
use Rattle.td_acts.specs.Deciding.{decision_on}
use Rattle.td_acts.proofs.Growing.{account_said_after, grown_after}
use Rattle.td_acts.proofs.Machines.{machine_says-append, machine_book-append}
use Rattle.td_desk.specs.declared.fault.Fault.{Fault}
use Rattle.td_desk.specs.declared.running.Outcome.{Outcome}
use Rattle.td_desk.specs.declared.running.Outcome.TheVariants as outcome
use Rattle.td_model.specs.Content.{Content, account_in, fresh}
use Rattle.td_acts.specs.Weighing.{owner_account, account_for, Carries}
use Rattle.td_desk.specs.Runs.{is_holder, heard, told, IsToldOfNobody, Performs, IsStep, IsRun}
use Rattle.td_model.proofs.Kept.{references_differ}
use Rattle.td_acts.proofs.Fresh.{account_fresh}

heard-append : (c : List ℕ) (H : ℕ) (list : List Stamped) (outcomes : List Outcome) (s : Stamped) (o : Outcome) → length outcomes ≡ length list → heard c H (list ++ s ∷ []) (outcomes ++ o ∷ []) ≡ heard c H list outcomes ++ heard c H (s ∷ []) (o ∷ [])
heard-append c H [] [] s o same = refl
heard-append c H [] (p ∷ outcomes) s o same = absurd (omega arith)
heard-append c H (r ∷ list) [] s o same = absurd (omega arith)
heard-append c H (r ∷ list) (outcome.Said words ∷ outcomes) s o same = grind (arith, nat_tests, heard-append c H list outcomes s o (omega arith))
heard-append c H (r ∷ list) (outcome.Failed fault ∷ outcomes) s o same = heard-append c H list outcomes s o (omega arith)

told-append : (c : List ℕ) (H : ℕ) (list : List Stamped) (outcomes : List Outcome) (s : Stamped) (o : Outcome) → length outcomes ≡ length list → told c H (list ++ s ∷ []) (outcomes ++ o ∷ []) ≡ told c H list outcomes ++ told c H (s ∷ []) (o ∷ [])
told-append c H [] [] s o same = refl
told-append c H [] (p ∷ outcomes) s o same = absurd (omega arith)
told-append c H (r ∷ list) [] s o same = absurd (omega arith)
told-append c H (r ∷ list) (outcome.Said words ∷ outcomes) s o same = grind (arith, nat_tests, told-append c H list outcomes s o (omega arith))
told-append c H (r ∷ list) (outcome.Failed fault ∷ outcomes) s o same = told-append c H list outcomes s o (omega arith)

is_holder_true : (H : ℕ) (o : Option ℕ) → is_holder H o ≡ true → o ≡ Some H
is_holder_true H None h = cc
is_holder_true H (Some owner) h = ap (λ n. Some n) (eqb-true owner H h)

is_holder_false : (H : ℕ) (o : Option ℕ) → is_holder H o ≡ false → o ≢ Some H
is_holder_false H None h = λ e. cc
is_holder_false H (Some owner) h = λ e. let same : owner ≡ H = cc in both_ways _ h (eq-eqb owner H same)

-- the books after one more answered command
module _ (c : List ℕ) (books : ℕ → Book) (list : List Stamped) (outcomes : List Outcome) (s : Stamped) (old new : Content) (runs : IsRun c books list outcomes old) where
  -- the book of H so far
  book : ℕ → Book
  book H = machine_book H (books H) (heard c H list outcomes)

  -- the owner at the desk's country
  owner : (H : ℕ) → owner_of c s.command ≡ Some H → owner_of old.country s.command ≡ Some H
  owner H own = rw runs.country_stays own

  -- H's fresh book says what H's book says
  same_account : (H : ℕ) → account_of H (fresh H old) ≡ account_of H (book H)
  unfolding book
  same_account H = account_fresh H old ∙ runs.tied.each H

  -- the references in H's account differ
  differ : (H : ℕ) → ReferencesDiffer (account_in H old)
  differ H = references_differ H old runs.sound

  -- the owner at the country of the owner's book
  owner_by_book : (H : ℕ) → owner_of c s.command ≡ Some H → owner_of (book H).opening.country s.command ≡ Some H
  unfolding book
  owner_by_book H own =
      let country : (book H).opening.country ≡ old.country = ap (λ (a : Account). a.country) (sym (same_account H)) in
      rw country (owner H own)

  -- H's book goes on growing
  grown_by : (H : ℕ) (b : Bool) → is_holder H (owner_of c s.command) ≡ b → IsGrown H (machine_book H (books H) (heard c H list outcomes ++ (if b then s ∷ [] else [])))
  unfolding book
  grown_by H true own =
      subst (λ (b : Book). IsGrown H b) (sym (machine_book-append H (books H) (heard c H list outcomes) s)) (grown_after H (book H) s (runs.tied.grown H) (owner_by_book H (is_holder_true H (owner_of c s.command) own)))
  grown_by H false other = rw append-nil (runs.tied.grown H)

  -- the owner's answer is that of the owner's book
  said_by_book : (H : ℕ) → owner_of c s.command ≡ Some H → said (owner_account old s.command) s.at s.command ≡ verdict H (book H) s.at s.command
  said_by_book H own =
      ap (λ o. said (account_for o old) s.at s.command) (owner H own) ∙ ap (λ (a : Account). said a s.at s.command) (same_account H)

  -- the owner's rows are those of the owner's book after the command
  own_after : (H : ℕ) → owner_of c s.command ≡ Some H → Carries old s new → account_in H new ≡ account_of H (book_after H (book H) s)
  unfolding book
  own_after H own carries =
      let e = same_account H in
      carries.own H (owner H own)
      ∙ account_said_after H (fresh H old) s tt (subst ReferencesDiffer (sym (account_fresh H old)) (differ H)) (owner H own)
      ∙ ap (λ (a : Account). account_after (decision_on a s.at s.command).change a) e
      ∙ sym (account_said_after H (book H) s (runs.tied.grown H) (subst ReferencesDiffer (runs.tied.each H) (differ H)) (owner_by_book H own))

  answers_failed : (H : ℕ) (f : Fault) → told c H (list ++ s ∷ []) (outcomes ++ outcome.Failed f ∷ []) ≡ machine_says H (books H) (heard c H (list ++ s ∷ []) (outcomes ++ outcome.Failed f ∷ []))
  answers_failed H f = rw (told-append c H list outcomes s (outcome.Failed f) runs.one_each, heard-append c H list outcomes s (outcome.Failed f) runs.one_each, append-nil, append-nil) (runs.answers H)

  each_failed : (H : ℕ) (f : Fault) → new ≡ old → account_in H new ≡ account_of H (machine_book H (books H) (heard c H (list ++ s ∷ []) (outcomes ++ outcome.Failed f ∷ [])))
  each_failed H f same = rw (same, heard-append c H list outcomes s (outcome.Failed f) runs.one_each, append-nil) (runs.tied.each H)

  answers_by : (H : ℕ) (words : Said) (b : Bool) → is_holder H (owner_of c s.command) ≡ b → words ≡ said (owner_account old s.command) s.at s.command → told c H list outcomes ++ (if b then words ∷ [] else []) ≡ machine_says H (books H) (heard c H list outcomes ++ (if b then s ∷ [] else []))
  unfolding book
  answers_by H words true own says =
      ap (λ l. l ++ words ∷ []) (runs.answers H)
      ∙ ap (λ x. machine_says H (books H) (heard c H list outcomes) ++ x ∷ []) (says ∙ said_by_book H (is_holder_true H (owner_of c s.command) own))
      ∙ sym (machine_says-append H (books H) (heard c H list outcomes) s)
  answers_by H words false other says = rw (append-nil, append-nil) (runs.answers H)

  each_by : (H : ℕ) (b : Bool) → is_holder H (owner_of c s.command) ≡ b → Carries old s new → account_in H new ≡ account_of H (machine_book H (books H) (heard c H list outcomes ++ (if b then s ∷ [] else [])))
  unfolding book
  each_by H true own carries = own_after H (is_holder_true H (owner_of c s.command) own) carries ∙ ap (account_of H) (sym (machine_book-append H (books H) (heard c H list outcomes) s))
  each_by H false other carries = rw append-nil (carries.others H (λ own. is_holder_false H (owner_of c s.command) other (rw (← runs.country_stays) own)) ∙ runs.tied.each H)

  -- what is said to a command that nobody owns
  nobodys_by : (words : Said) → words ≡ said (owner_account old s.command) s.at s.command → owner_of c s.command ≡ None → words ≡ said (empty_account c) s.at s.command
  nobodys_by words says none =
      let nobody : owner_of old.country s.command ≡ None = rw runs.country_stays none in
      says ∙ ap (λ o. said (account_for o old) s.at s.command) nobody ∙ ap (λ country. said (empty_account country) s.at s.command) runs.country_stays

  nobodys_more : (o : Outcome) → IsToldOfNobody c s o → AllZip (IsToldOfNobody c) (list ++ s ∷ []) (outcomes ++ o ∷ [])
  nobodys_more o told = all_zipped_more (IsToldOfNobody c) list outcomes s o runs.nobodys told

  -- a run goes on by one command
  pub run_more : (o : Outcome) → Performs old s o new → IsRun c books (list ++ s ∷ []) (outcomes ++ o ∷ []) new
  run_more (outcome.Failed f) same = record {
    one_each = simp length-append (omega (arith, runs.one_each));
    answers = λ H. answers_failed H f;
    nobodys = nobodys_more (outcome.Failed f) tt;
    country_stays = rw same runs.country_stays;
    sound = rw same runs.sound;
    tied = record { each = λ H. each_failed H f same; grown = λ H. rw (heard-append c H list outcomes s (outcome.Failed f) runs.one_each, append-nil) (runs.tied.grown H) };
  }
  run_more (outcome.Said words) performs = record {
    one_each = simp length-append (omega (arith, runs.one_each));
    answers = λ H. rw (told-append c H list outcomes s (outcome.Said words) runs.one_each, heard-append c H list outcomes s (outcome.Said words) runs.one_each) (answers_by H words (is_holder H (owner_of c s.command)) refl performs.0);
    nobodys = nobodys_more (outcome.Said words) (nobodys_by words performs.0);
    country_stays = performs.1.country ∙ runs.country_stays;
    sound = performs.1.sound;
    tied = record { each = λ H. rw (heard-append c H list outcomes s (outcome.Said words) runs.one_each) (each_by H (is_holder H (owner_of c s.command)) refl performs.1); grown = λ H. rw (heard-append c H list outcomes s (outcome.Said words) runs.one_each) (grown_by H (is_holder H (owner_of c s.command)) refl) };
  }

-- the same at a desk that may be shut, where rows is the content up to the shutting
pub run_on : (c : List ℕ) (books : ℕ → Book) (list : List Stamped) (outcomes : List Outcome) (s : Stamped) (rows old new : Content) (was_live is_live : Type 0)
    → IsRun c books list outcomes rows → (was_live → old ≡ rows) → (is_live → was_live) → (o : Outcome)
    → IsStep was_live is_live old s o new
    → (content : Content) × IsRun c books (list ++ s ∷ []) (outcomes ++ o ∷ []) content × (is_live → new ≡ content)
run_on c books list outcomes s rows old new was_live is_live runs same back (outcome.Said words) step =
    let at_old : IsRun c books list outcomes old = subst (λ content. IsRun c books list outcomes content) (sym (same step.0)) runs in
    (new, run_more c books list outcomes s old new at_old (outcome.Said words) (step.2 at_old.sound), λ live. refl)
run_on c books list outcomes s rows old new was_live is_live runs same back (outcome.Failed f) step =
    (rows, run_more c books list outcomes s rows rows runs (outcome.Failed f) refl, λ live. step live ∙ same (back live))
