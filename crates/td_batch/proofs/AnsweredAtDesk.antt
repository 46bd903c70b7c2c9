-- A declaration that was answered, and is done again in another batch.
use Rattle.std.proofs.Common.{◌≡◌, ◌∙◌, ℕ, ℤ, ◌≤◌, Bool, true, false, List, [], ◌∷◌, ◌++◌, length, map, take, Option, Some, None, option_map, refl, sym, ap, subst, arith}
use Rattle.std.specs.Prelude.{if◌then◌else◌}
use Rattle.std.specs.List.{AllByRecursion}
use Rattle.std.proofs.lemmas.List.{append_assoc, length-map, map-append}
use Rattle.td_base.specs.Days.{moment_of}
use Rattle.td_commands.specs.Commands.{owner_of}
use Rattle.td_commands.specs.declared.command.Command.{Command}
use Rattle.td_commands.specs.declared.command.Command.TheVariants.{Ie015}
use Rattle.td_commands.specs.declared.command.Stamped.{Stamped}
use Rattle.td_commands.specs.declared.said.Answer.{Answer}
use Rattle.td_commands.specs.declared.said.Said.{Said}
use Rattle.td_commands.specs.declared.said.Said.TheVariants.{Answered}
use Rattle.td_model.specs.declared.holder_row.HolderRow.{HolderRow}
use Rattle.td_model.specs.Book.{Act, Book, account_of, eori_of, grn_count_of, last_in, last_of, mrn_count_of}
use Rattle.td_model.specs.Machine.{appended, book_after, book_after_at, is_accepted_at, machine_book, verdict}
use Rattle.td_desk.specs.declared.fault.Fault.{Fault}
use Rattle.td_desk.specs.declared.running.Outcome.{Outcome}
use Rattle.td_desk.specs.declared.running.Outcome.TheVariants as outcome
use Rattle.td_model.specs.Content.{Content, account_in, fresh, IsSound}
use Rattle.td_desk.specs.Runs.{heard, is_holder, IsRun, IsTied}
use Rattle.td_desk.specs.View.{DeskView}
use Rattle.td_acts.proofs.Fresh.{account_fresh}
use Rattle.td_batch_rows.specs.Declarations.{IsDeclaration}
use Rattle.td_batch.specs.declared.running.BatchRun.{BatchRun}
use Rattle.td_batch.specs.Laws.{AnsweredAgain, IsSaidTo}
use Rattle.td_batch.specs.Results.{declaration_result, declarations_header}
use Rattle.td_batch.specs.Runs.{at_moment, outcomes_of, tried, IsBatchDone}
use Rattle.td_batch.proofs.Again.{answered_again}
use Rattle.td_batch.proofs.AgainAtDesk.{live_back, test_owner}
use Rattle.td_batch.proofs.Told.{goes_on, machine_book-parts, said_by_machine}

-- ---- the place of a row

outcomes_parts : (before : List Said) (s : Said) (after : List Said) (stopped : Option Fault)
    → outcomes_of (before ++ s ∷ after) stopped ≡ map (λ s. outcome.Said s) before ++ outcome.Said s ∷ outcomes_of after stopped
outcomes_parts before s after None = map-append (λ s. outcome.Said s) before (s ∷ after)
outcomes_parts before s after (Some why) =
    ap (λ os. os ++ outcome.Failed why ∷ []) (map-append (λ s. outcome.Said s) before (s ∷ after))
    ∙ append_assoc (map (λ s. outcome.Said s) before) (outcome.Said s ∷ map (λ s. outcome.Said s) after) (outcome.Failed why ∷ [])

first_parts : {X Y : Type 0} (xs : List X) (x : X) (ys : List X) (os : List Y) (o : Y) (ps : List Y) → length os ≡ length xs
    → take (length (os ++ o ∷ ps)) (xs ++ x ∷ ys) ≡ xs ++ x ∷ take (length ps) ys
first_parts [] x ys [] o ps same = refl
first_parts [] x ys (p ∷ os) o ps same = absurd (omega (arith, same))
first_parts (a ∷ xs) x ys [] o ps same = absurd (omega (arith, same))
first_parts (a ∷ xs) x ys (p ∷ os) o ps same = ap (λ more. a ∷ more) (first_parts xs x ys os o ps (omega (arith, same)))

-- ---- books

-- the holder's row tells the moment of the last change
row_tells : (H at grns mrns : ℕ) (eori : Option (List ℕ)) (row : HolderRow)
    → option_map (λ e. record { holder = H; eori = e; last_at = at; grn_count = grns; mrn_count = mrns }) eori ≡ Some row → row.last_at ≡ at
row_tells H at grns mrns None row is = absurd (bad is)
  where
    bad : ◌≡◌ {A = Option HolderRow} None (Some row) → ⊥
    bad is = cc
row_tells H at grns mrns (Some e) row is =
    let same : ◌≡◌ {A = HolderRow} (record { holder = H; eori = e; last_at = at; grn_count = grns; mrn_count = mrns }) row = cc in
    sym (ap (λ (r : HolderRow). r.last_at) same)

last_one : (at : ℕ) (acts : List Act) (a : Act) → last_in at (acts ++ a ∷ []) ≡ a.at
last_one at [] a = refl
last_one at (b ∷ acts) a = last_one b.at acts a

-- commands at one moment lead to no later last change
last_by : (book : Book) (t : ℕ) (command : Command) (b : Bool) → last_of book ≤ t → last_of (if b then appended book t command else book) ≤ t
last_by book t command true before = rw (last_one _ book.acts (record { at = t; command = command })) (omega arith)
last_by book t command false before = before

last_stays : (H : ℕ) (later : ℤ) (t : ℕ) (list : List Stamped) (book : Book) → moment_of later ≡ Some t → AllByRecursion (λ (s : Stamped). s.at ≡ later) list
    → last_of book ≤ t → last_of (machine_book H book list) ≤ t
last_stays H later t [] book shown all before = before
last_stays H later t (s ∷ list) book shown all before =
    last_stays H later t list (book_after H book s) shown all.1
    (subst (λ m. last_of (book_after_at H book m s.command) ≤ t) (sym (ap moment_of all.0 ∙ shown)) (last_by book t s.command (is_accepted_at (account_of H book) t s.command) before))

-- what is heard of rows at one moment came at that moment
heard_at_by : (country : List ℕ) (H : ℕ) (at : ℤ) (x : Command) (w : Said) (rows : List Command) (os : List Outcome) (b : Bool) → is_holder H (owner_of country x) ≡ b
    → AllByRecursion (λ (s : Stamped). s.at ≡ at) (heard country H (map (at_moment at) rows) os)
    → AllByRecursion (λ (s : Stamped). s.at ≡ at) (heard country H (at_moment at x ∷ map (at_moment at) rows) (outcome.Said w ∷ os))
heard_at_by country H at x w rows os true is rest = rw is (refl, rest)
heard_at_by country H at x w rows os false is rest = rw is rest

heard_at : (country : List ℕ) (H : ℕ) (at : ℤ) (rows : List Command) (os : List Outcome)
    → AllByRecursion (λ (s : Stamped). s.at ≡ at) (heard country H (map (at_moment at) rows) os)
heard_at country H at [] os = tt
heard_at country H at (x ∷ rows) [] = tt
heard_at country H at (x ∷ rows) (outcome.Said w ∷ os) = heard_at_by country H at x w rows os (is_holder H (owner_of country x)) refl (heard_at country H at rows os)
heard_at country H at (x ∷ rows) (outcome.Failed f ∷ os) = heard_at country H at rows os

-- a declaration's owner is read from the declaration alone
pub owner_any : (d : Command) (country other : List ℕ) (H : ℕ) → IsDeclaration d → owner_of country d ≡ Some H → owner_of other d ≡ Some H
owner_any (Ie015 holder lrn departure destination lines) country other H is own = own
owner_any d country other H is own = absurd is

-- ---- a batch

-- What was said to a command of H's among others is the verdict of H's machine, after what was heard of H before it; and H's book
-- in the end goes on from there.
pub record HasSaid (H : ℕ) (at : ℤ) (d : Command) (s : Said) (book end : Book) : Type 0 where
  before : List Stamped
  after : List Stamped
  at_once : AllByRecursion (λ (e : Stamped). e.at ≡ at) before
  says : s ≡ verdict H (machine_book H book before) at d
  ends : end ≡ machine_book H (book_after H (machine_book H book before) (at_moment at d)) after

-- so it is at each place of a run at one moment
pub has_said_at : (country : List ℕ) (H : ℕ) (at : ℤ) (books : ℕ → Book) (rows : List Command) (outcomes : List Outcome) (c : Content)
    → IsRun country books (map (at_moment at) rows) outcomes c
    → (xs : List Command) (d : Command) (ys : List Command) (os : List Outcome) (s : Said) (ps : List Outcome)
    → rows ≡ xs ++ d ∷ ys → outcomes ≡ os ++ outcome.Said s ∷ ps → length os ≡ length xs → owner_of country d ≡ Some H
    → HasSaid H at d s (books H) (machine_book H (books H) (heard country H (map (at_moment at) rows) outcomes))
has_said_at country H at books rows outcomes c run xs d ys os s ps all_rows all_outcomes count own =
    let list : map (at_moment at) rows ≡ map (at_moment at) xs ++ at_moment at d ∷ map (at_moment at) ys =
    ap (map (at_moment at)) all_rows ∙ map-append (at_moment at) xs (d ∷ ys) in
    let here : IsRun country books (map (at_moment at) xs ++ at_moment at d ∷ map (at_moment at) ys) (os ++ outcome.Said s ∷ ps) c =
    subst (λ l. IsRun country books l (os ++ outcome.Said s ∷ ps) c) list
    (subst (λ o. IsRun country books (map (at_moment at) rows) o c) all_outcomes run) in
    let number : length os ≡ length (map (at_moment at) xs) = count ∙ sym (length-map xs (at_moment at)) in
    let mine : is_holder H (owner_of country d) ≡ true = rw own (test_owner H) in
    record {
      before = heard country H (map (at_moment at) xs) os;
      after = heard country H (map (at_moment at) ys) ps;
      at_once = heard_at country H at xs os;
      says = said_by_machine country H books (map (at_moment at) xs) (at_moment at d) (map (at_moment at) ys) os s ps c here number mine;
      ends = ap (λ l. machine_book H (books H) (heard country H l outcomes)) list
          ∙ ap (λ o. machine_book H (books H) (heard country H (map (at_moment at) xs ++ at_moment at d ∷ map (at_moment at) ys) o)) all_outcomes
          ∙ goes_on country H books (map (at_moment at) xs) (at_moment at d) (map (at_moment at) ys) os s ps c here number mine;
    }

has_said : (country : List ℕ) (H : ℕ) (at : ℤ) (books : ℕ → Book) (rows : List Command) (said : List Said) (stopped : Option Fault) (c : Content) (d : Command) (s : Said)
    → (run : IsRun country books (map (at_moment at) (tried rows said stopped)) (outcomes_of said stopped) c) → IsSaidTo d s rows said → owner_of country d ≡ Some H
    → HasSaid H at d s (books H) (machine_book H (books H) (heard country H (map (at_moment at) (tried rows said stopped)) (outcomes_of said stopped)))
has_said country H at books rows said stopped c d s run place own =
    let xs = place.0 in
    let ys = place.1 in
    let ws = place.2 in
    let vs = place.3 in
    let os = map (λ s. outcome.Said s) ws in
    let ps = outcomes_of vs stopped in
    let count : length os ≡ length xs = length-map ws (λ s. outcome.Said s) ∙ place.6 in
    let all_outcomes : outcomes_of said stopped ≡ os ++ outcome.Said s ∷ ps = ap (λ l. outcomes_of l stopped) place.5 ∙ outcomes_parts ws s vs stopped in
    let all_rows : tried rows said stopped ≡ xs ++ d ∷ take (length ps) ys =
    ap (λ l. take (length l) rows) all_outcomes ∙ ap (take (length (os ++ outcome.Said s ∷ ps))) place.4 ∙ first_parts xs d ys os (outcome.Said s) ps count in
    has_said_at country H at books (tried rows said stopped) (outcomes_of said stopped) c run xs d (take (length ps) ys) os s ps all_rows all_outcomes count own

-- ---- sent again

-- What was answered to a declaration is said to it again by a batch at a desk to which the holder's book led on from there.
pub said_again : {D : Type 0} (view : DeskView D) (at later : ℤ) (t : ℕ) (others : List Command) (again : BatchRun) (middle new : D)
    (H : ℕ) (row : HolderRow) (d : Command) (a : Answer) (s : Said) (book end : Book) (books : ℕ → Book) (between : List Stamped)
    → HasSaid H at d (Answered a) book end → IsTied (view.content middle) books → books H ≡ machine_book H end between → IsSound (view.content middle)
    → (more : IsBatchDone view declaration_result declarations_header later others again middle new) → view.is_clean new → view.is_live middle
    → IsDeclaration d → IsSaidTo d s others more.said
    → owner_of (view.content middle).country d ≡ Some H → (account_in H (view.content middle)).holder ≡ Some row → moment_of later ≡ Some t → row.last_at ≤ t → s ≡ Answered a
said_again view at later t others again middle new H row d a s book end books between was tied led sound more new_clean middle_live is said_more own holder shown since =
    let told = more.private new_clean middle_live sound books tied in
    let now = has_said (view.content middle).country H later books others more.said again.stopped told.0 d s told.1 said_more own in
    let first = machine_book H book was.before in
    let then_book : machine_book H (books H) now.before ≡ machine_book H (book_after H first (at_moment at d)) (was.after ++ (between ++ now.before)) =
    ap (λ b. machine_book H b now.before) (led ∙ ap (λ b. machine_book H b between) was.ends
    ∙ sym (machine_book-parts H (book_after H first (at_moment at d)) was.after between))
    ∙ sym (machine_book-parts H (book_after H first (at_moment at d)) (was.after ++ between) now.before)
    ∙ ap (machine_book H (book_after H first (at_moment at d))) (append_assoc was.after between now.before) in
    let tells : row.last_at ≡ last_of (books H) =
    row_tells H (last_of (books H)) (grn_count_of (books H)) (mrn_count_of (books H)) (eori_of (books H)) row
    (ap (λ account. account.holder) (sym (tied.each H)) ∙ holder) in
    let last : last_of (books H) ≤ t = subst (λ n. n ≤ t) tells since in
    let not_before : last_of (machine_book H (book_after H first (at_moment at d)) (was.after ++ (between ++ now.before))) ≤ t =
    subst (λ b. last_of b ≤ t) then_book (last_stays H later t now.before (books H) shown now.at_once last) in
    let answered = answered_again H first at later d (was.after ++ (between ++ now.before)) a t is (owner_any d (view.content middle).country first.opening.country H is own)
    (sym was.says) shown not_before in
    now.says ∙ ap (λ b. verdict H b later d) then_book ∙ answered.0

pub answered_again_at_desk : {D : Type 0} (view : DeskView D) → AnsweredAgain view
answered_again_at_desk view at later t rows others first again old mid middle new H row d a s one more mid_clean mid_live sound came new_clean middle_live is said_one said_more own holder shown since =
    let old_live = live_back view at _ old mid one.steps mid_clean mid_live in
    let books : ℕ → Book = (λ G. fresh G (view.content old)) in
    let tied : IsTied (view.content old) books = record { each = λ G. sym (account_fresh G (view.content old)); grown = λ G. tt } in
    let told = one.private mid_clean old_live sound books tied in
    let country = (view.content old).country in
    let books_mid : ℕ → Book = (λ G. machine_book G (books G) (heard country G (map (at_moment at) (tried rows one.said first.stopped)) (outcomes_of one.said first.stopped))) in
    let tied_mid : IsTied (view.content mid) books_mid = subst (λ c. IsTied c books_mid) (sym (told.2 mid_live)) told.1.tied in
    let later_books = came.books books_mid tied_mid in
    let was = has_said country H at books rows one.said first.stopped told.0 d (Answered a) told.1 said_one (owner_any d (view.content middle).country country H is own) in
    said_again view at later t others again middle new H row d a s (books H) (books_mid H) (λ G. machine_book G (books_mid G) (later_books.0 G)) (later_books.0 H)
    was later_books.1 refl came.sound more new_clean middle_live is said_more own holder shown since
