-- A batch of declarations that is done again at a desk.
use Rattle.std.proofs.Common.{◌≡◌, ◌∙◌, inl, inr, ℕ, ℤ, Bool, true, false, List, [], ◌∷◌, ◌++◌, length, map, take, filter, zero, suc, Some, None, refl, sym, ap, subst, arith}
use Rattle.std.specs.Prelude.{zip, if◌then◌else◌}
use Rattle.std.specs.List.{AllByRecursion, FoldsTo}
use Rattle.std.proofs.Math.Seq.{take-length}
use Rattle.std.proofs.lemmas.List.{append_assoc, length-map}
use Rattle.std.proofs.lemmas.List.Elements.{filter-append}
use borrow.Author.Tests.{eq-eqb}
use Rattle.td_commands.specs.Commands.{owner_of}
use Rattle.td_commands.specs.declared.command.Command.{Command}
use Rattle.td_commands.specs.declared.command.Command.TheVariants.{Ie015}
use Rattle.td_commands.specs.declared.said.Said.{Said}
use Rattle.td_model.specs.Book.{Book, account_of}
use Rattle.td_model.specs.Machine.{is_accepted, machine_book}
use Rattle.td_desk.specs.declared.fault.Fault.TheVariants as fault
use Rattle.td_desk.specs.declared.running.Outcome.{Outcome}
use Rattle.td_desk.specs.declared.running.Outcome.TheVariants as outcome
use Rattle.td_model.specs.Content.{Content, fresh, IsSound}
use Rattle.td_desk.specs.Runs.{heard, is_holder, IsRun, IsTied}
use Rattle.td_desk.specs.View.{DeskView}
use Rattle.td_acts.specs.Weighing.{account_for, owner_account}
use Rattle.td_acts.proofs.Fresh.{account_fresh}
use Rattle.td_batch_rows.specs.Declarations.{IsDeclaration}
use Rattle.td_batch.specs.declared.running.BatchRun.{BatchRun}
use Rattle.td_batch.specs.Results.{declaration_result, declarations_header}
use Rattle.td_batch.specs.Runs.{at_moment, outcomes_of, tried, IsBatchDone, IsRowDone, IsRunOf}
use Rattle.td_batch.specs.Laws.{AgainChangesNothing}
use Rattle.td_batch.proofs.Again.{not_accepted_again}

-- ---- the declarations of one holder

-- a declaration is its holder's, in any country
owner_is : (country : List ℕ) (d : Command) → IsDeclaration d → (H : ℕ) × (owner_of country d ≡ Some H)
owner_is country (Ie015 holder lrn departure destination lines) is = (holder, refl)
owner_is country d is = absurd is

abbrev owned : List ℕ → ℕ → List Command → List Command
owned country H rows = filter (λ d. is_holder H (owner_of country d)) rows

pub test_owner : (H : ℕ) → is_holder H (Some H) ≡ true
test_owner H = eq-eqb H H refl

-- one declaration more in front of those
owned_more : (country : List ℕ) (H : ℕ) (x : Command) (b : Bool) (ys : List Command) → is_holder H (owner_of country x) ≡ b
    → owned country H (x ∷ ys) ≡ (if b then x ∷ owned country H ys else owned country H ys)
owned_more country H x true ys is = rw is refl
owned_more country H x false ys is = rw is refl

-- all of them are declarations where all rows are
all_owned : (country : List ℕ) (H : ℕ) (rows : List Command) → AllByRecursion IsDeclaration rows → AllByRecursion IsDeclaration (owned country H rows)
all_owned country H [] all = tt
all_owned country H (x ∷ rows) all = by (is_holder H (owner_of country x)) refl (all_owned country H rows all.1)
  where
    by : (b : Bool) → is_holder H (owner_of country x) ≡ b → AllByRecursion IsDeclaration (owned country H rows) → AllByRecursion IsDeclaration (owned country H (x ∷ rows))
    by true is rest = rw (owned_more country H x true rows is) (all.0, rest)
    by false is rest = rw (owned_more country H x false rows is) rest

all_behind : (xs : List Command) (d : Command) (ys : List Command) → AllByRecursion IsDeclaration (xs ++ d ∷ ys) → IsDeclaration d × AllByRecursion IsDeclaration ys
all_behind [] d ys all = (all.0, all.1)
all_behind (x ∷ xs) d ys all = all_behind xs d ys all.1

owned_parts : (country : List ℕ) (H : ℕ) (xs : List Command) (d : Command) (ys : List Command) → owner_of country d ≡ Some H
    → owned country H (xs ++ d ∷ ys) ≡ owned country H xs ++ d ∷ owned country H ys
owned_parts country H xs d ys own =
    let test : is_holder H (owner_of country d) ≡ true = rw own (test_owner H) in
    filter-append (λ x. is_holder H (owner_of country x)) xs (d ∷ ys) ∙ ap (λ more. owned country H xs ++ more) (owned_more country H d true ys test)

-- where all rows were done, a holder's commands that didn't fail are the holder's rows
heard_more : (country : List ℕ) (H : ℕ) (at : ℤ) (x : Command) (s : Said) (rows : List Command) (said : List Said) (b : Bool)
    → is_holder H (owner_of country x) ≡ b → heard country H (map (at_moment at) rows) (map (λ s. outcome.Said s) said) ≡ map (at_moment at) (owned country H rows)
    → heard country H (map (at_moment at) (x ∷ rows)) (map (λ s. outcome.Said s) (s ∷ said)) ≡ map (at_moment at) (owned country H (x ∷ rows))
heard_more country H at x s rows said true is rest = rw (owned_more country H x true rows is, is) (ap (λ more. at_moment at x ∷ more) rest)
heard_more country H at x s rows said false is rest = rw (owned_more country H x false rows is, is) rest

heard_all : (country : List ℕ) (H : ℕ) (at : ℤ) (rows : List Command) (said : List Said) → length said ≡ length rows
    → heard country H (map (at_moment at) rows) (map (λ s. outcome.Said s) said) ≡ map (at_moment at) (owned country H rows)
heard_all country H at [] [] same = refl
heard_all country H at [] (s ∷ said) same = absurd (omega (arith, same))
heard_all country H at (x ∷ rows) [] same = absurd (omega (arith, same))
heard_all country H at (x ∷ rows) (s ∷ said) same =
    heard_more country H at x s rows said (is_holder H (owner_of country x)) refl (heard_all country H at rows said (omega (arith, same)))

-- ---- what isn't accepted

-- over a content that a run of declarations at one moment left, none of them is accepted at that moment
module _ (country : List ℕ) (books : ℕ → Book) (at : ℤ) (rows : List Command) (said : List Said) (c : Content) (all : AllByRecursion IsDeclaration rows)
    (same : length said ≡ length rows) (run : IsRun country books (map (at_moment at) rows) (map (λ s. outcome.Said s) said) c) where
  none_of : (H : ℕ) (xs : List Command) (d : Command) (ys : List Command) → rows ≡ xs ++ d ∷ ys → owner_of country d ≡ Some H
      → is_accepted (owner_account c d) at d ≡ false
  none_of H xs d ys parts own =
      let own_here : owner_of c.country d ≡ Some H = rw run.country_stays own in
      let kept : owner_account c d ≡ account_of H (machine_book H (books H) (map (at_moment at) (owned country H xs ++ d ∷ owned country H ys))) =
      ap (λ o. account_for o c) own_here ∙ account_fresh H c ∙ run.tied.each H
      ∙ ap (λ list. account_of H (machine_book H (books H) list)) (heard_all country H at rows said same
      ∙ ap (map (at_moment at)) (ap (owned country H) parts ∙ owned_parts country H xs d ys own)) in
      let behind = all_behind xs d ys (subst (AllByRecursion IsDeclaration) parts all) in
      ap (λ account. is_accepted account at d) kept
      ∙ not_accepted_again H (books H) at (owned country H xs) d (owned country H ys) behind.0 (all_owned country H ys behind.1)

  all_none : (xs ys : List Command) → rows ≡ xs ++ ys → AllByRecursion (λ d. is_accepted (owner_account c d) at d ≡ false) ys
  all_none xs [] parts = tt
  all_none xs (d ∷ ys) parts =
      let behind = all_behind xs d ys (subst (AllByRecursion IsDeclaration) parts all) in
      let own = owner_is country d behind.0 in
      (none_of own.0 xs d ys parts own.1, all_none (xs ++ d ∷ []) ys (parts ∙ sym (append_assoc xs (d ∷ []) ys)))

  pub none_is_accepted : AllByRecursion (λ d. is_accepted (owner_account c d) at d ≡ false) rows
  none_is_accepted = all_none [] rows refl

-- ---- at a desk

all_tried : (P : Command → Type 0) (n : ℕ) (rows : List Command) (outcomes : List Outcome) → AllByRecursion P rows
    → AllByRecursion (λ (e : Command × Outcome). P e.0) (zip (take n rows) outcomes)
all_tried P zero rows outcomes all = tt
all_tried P (suc n) [] outcomes all = tt
all_tried P (suc n) (d ∷ rows) [] all = tt
all_tried P (suc n) (d ∷ rows) (o ∷ outcomes) all = (all.0, all_tried P n rows outcomes all.1)

module _ {D : Type 0} (view : DeskView D) (at : ℤ) where
  pub clean_back : (list : List (Command × Outcome)) (a b : D) → FoldsTo (IsRowDone view at) a list b → view.is_clean b → view.is_clean a
  clean_back [] a b steps clean = subst view.is_clean (sym steps) clean
  clean_back (e ∷ list) a b steps clean = steps.1.clean (clean_back list steps.0 b steps.2 clean)

  pub live_back : (list : List (Command × Outcome)) (a b : D) → FoldsTo (IsRowDone view at) a list b → view.is_clean b → view.is_live b → view.is_live a
  live_back [] a b steps clean live = subst view.is_live (sym steps) live
  live_back (e ∷ list) a b steps clean live = steps.1.live (clean_back list steps.0 b steps.2 clean) (live_back list steps.0 b steps.2 clean live)

  -- rows of which none is accepted leave the content
  stays_by : (c : Content) → IsSound c → (list : List (Command × Outcome)) (a b : D) → FoldsTo (IsRowDone view at) a list b
      → AllByRecursion (λ (e : Command × Outcome). is_accepted (owner_account c e.0) at e.0 ≡ false) list
      → view.is_clean b → view.is_live b → view.content a ≡ c → view.content b ≡ c
  stays_by c sound [] a b steps none clean live same = ap view.content (sym steps) ∙ same
  stays_by c sound (e ∷ list) a b steps none clean live same =
      let before = clean_back list steps.0 b steps.2 clean in
      let left = live_back list steps.0 b steps.2 clean live in
      stays_by c sound list steps.0 b steps.2 none.1 clean live
      (steps.1.unchanged before left (subst IsSound (sym same) sound) (ap (λ x. is_accepted (owner_account x e.0) at e.0) same ∙ none.0) ∙ same)

  done_again : (rows : List Command) (first again : BatchRun) (old mid new : D) → AllByRecursion IsDeclaration rows
      → IsBatchDone view declaration_result declarations_header at rows first old mid → first.stopped ≡ None
      → IsBatchDone view declaration_result declarations_header at rows again mid new
      → view.is_clean new → view.is_live new → IsSound (view.content old) → view.content new ≡ view.content mid
  done_again rows first again old mid new all one whole more clean live sound =
      let same : length one.said ≡ length rows = rw whole at one.ends in
      let outcomes : outcomes_of one.said first.stopped ≡ map (λ s. outcome.Said s) one.said = ap (outcomes_of one.said) whole in
      let every : tried rows one.said first.stopped ≡ rows =
      ap (λ o. take (length o) rows) outcomes ∙ ap (λ n. take n rows) (length-map one.said (λ s. outcome.Said s) ∙ same) ∙ take-length rows in
      let mid_clean = clean_back _ mid new more.steps clean in
      let mid_live = live_back _ mid new more.steps clean live in
      let old_live = live_back _ old mid one.steps mid_clean mid_live in
      let books : ℕ → Book = (λ H. fresh H (view.content old)) in
      let tied : IsTied (view.content old) books = record { each = λ H. sym (account_fresh H (view.content old)); grown = λ H. tt } in
      let told = one.private mid_clean old_live sound books tied in
      let c = told.0 in
      let run : IsRun (view.content old).country books (map (at_moment at) rows) (map (λ s. outcome.Said s) one.said) c =
      subst (λ commands. IsRun (view.content old).country books (map (at_moment at) commands) (map (λ s. outcome.Said s) one.said) c) every
      (subst (λ os. IsRun (view.content old).country books (map (at_moment at) (tried rows one.said first.stopped)) os c) outcomes told.1) in
      let is : view.content mid ≡ c = told.2 mid_live in
      stays_by c run.sound _ mid new more.steps
      (all_tried (λ d. is_accepted (owner_account c d) at d ≡ false) (length (outcomes_of more.said again.stopped)) rows (outcomes_of more.said again.stopped)
      (none_is_accepted (view.content old).country books at rows one.said c all same run)) clean live is ∙ sym is

  by_first : (rows : List Command) (first again : BatchRun) (old mid new : D) → AllByRecursion IsDeclaration rows
      → IsRunOf view declaration_result declarations_header at rows first old mid → first.stopped ≡ None
      → IsBatchDone view declaration_result declarations_header at rows again mid new
      → view.is_clean new → view.is_live new → IsSound (view.content old) → view.content new ≡ view.content mid
  by_first rows first again old mid new all (inl none) whole more clean live sound = absurd (stopped none.3 whole)
    where
      stopped : first.stopped ≡ Some fault.NoMemory → first.stopped ≡ None → ⊥
      stopped is isnt = cc
  by_first rows first again old mid new all (inr one) whole more clean live sound =
      done_again rows first again old mid new all one whole more clean live sound

pub again_changes_nothing : {D : Type 0} (view : DeskView D) → AgainChangesNothing view
again_changes_nothing view at rows first again old mid new all one whole (inl none) clean live sound = ap view.content none.0
again_changes_nothing view at rows first again old mid new all one whole (inr more) clean live sound =
    by_first view at rows first again old mid new all one whole more clean live sound
