-- The rows of a file at the desks of their holders.
use Rattle.std.proofs.Common.{◌≡◌, ℕ, zero, suc, ◌<◌, ◌≤◌, ℤ, Bool, true, false, List, [], ◌∷◌, ◌++◌, length, take, Option, Some, None, refl, sym, ◌∙◌, ap, ap₂, subst, arith}
use Rattle.std.specs.Prelude.{◌==◌, if◌then◌else◌, map, filter}
use Rattle.std.specs.List.{AllByRecursion, AllZip, concat}
use Rattle.std.proofs.lemmas.List.{length-map, length-take, take-map, take_all}
use Rattle.td_commands.specs.declared.command.Command.{Command}
use Rattle.td_commands.specs.declared.command.Stamped.{Stamped}
use Rattle.td_commands.specs.declared.said.Said.{Said}
use Rattle.td_commands.specs.Commands.{owner_of}
use Rattle.td_model.specs.Account.{empty_account}
use Rattle.td_model.specs.Book.{Book}
use Rattle.td_model.specs.Machine.{machine_says}
use Rattle.td_model.specs.Table.{said}
use Rattle.td_desk.specs.declared.fault.Fault.{Fault}
use Rattle.td_desk.specs.declared.running.Outcome.{Outcome}
use Rattle.td_desk.specs.declared.running.Outcome.TheVariants as outcome
use Rattle.td_model.specs.Content.{Content, fresh, rows_of, IsSound}
use Rattle.td_desk.specs.Runs.{failures, heard, is_holder, part, told, IsRun, IsToldOfNobody}
use Rattle.td_desk.specs.View.{DeskView}
use Rattle.td_desk.proofs.Agreeing.{heard_alike}
use Rattle.td_split.specs.Laws.{UnionIsOneContent}
use Rattle.td_batch.specs.declared.running.BatchRun.{BatchRun}
use Rattle.td_batch.specs.Laws.{stamped_rows}
use Rattle.td_batch.specs.Results.{result_rows}
use Rattle.td_batch.specs.Runs.{at_moment, outcomes_of, tried, Ends}
use Rattle.td_split_jobs.specs.Gathered.{gathered}
use Rattle.td_split_jobs.specs.Rows.{SentRow, all_rows, desks_of, own_lines, result_lines, rows_for, failures_in, IsBatchAt, IsRowSentTo, IsSplitBatch}
use Rattle.td_split_jobs.specs.RowLaws.{BatchesHoldAsOne, BatchesTellAsOne, ResultIsGathered, RowsAreGathered}
use Rattle.td_split_jobs.proofs.Batches.{batch_of, form_of, shards_of, all_heard, all_said, batch_is_run, beginning_is_run, done_is, end_of, none_failed, outcome_each, outcomes_are, said_within}
use Rattle.td_split_jobs.proofs.Contents.{runs_alike, same_fresh, union_is_content}
use Rattle.td_split_jobs.proofs.Places.{filter_map, filter_take, at_desk, gathered_holds, gathered_own, length_gathered, mine_at_home, nobodys_alike, own, own_take, same_places, Fits, Holds, IsPlaced}

all_take : {A : Type 0} (P : A → Type 0) (n : ℕ) (xs : List A) → AllByRecursion P xs → AllByRecursion P (take n xs)
all_take P zero xs all = tt
all_take P (suc n) [] all = tt
all_take P (suc n) (x ∷ xs) all = (all.0, all_take P n xs all.1)

-- ---- rows of result files

module _ (line : Command → Said → List ℕ) where
  no_lines : (rows : List Command) → result_lines line rows [] ≡ []
  no_lines [] = refl
  no_lines (row ∷ rows) = refl

  take_lines : (n : ℕ) (rows : List Command) (words : List Said) → take n (result_lines line rows words) ≡ result_lines line (take n rows) (take n words)
  take_lines zero rows words = refl
  take_lines (suc n) [] words = refl
  take_lines (suc n) (row ∷ rows) [] = refl
  take_lines (suc n) (row ∷ rows) (w ∷ words) = ap (λ (l : List (List ℕ)). line row w ∷ l) (take_lines n rows words)

  length_lines : (rows : List Command) (words : List Said) → length words ≤ length rows → length (result_lines line rows words) ≡ length words
  length_lines [] [] within = refl
  length_lines [] (w ∷ words) within = absurd (omega (arith, within))
  length_lines (row ∷ rows) [] within = refl
  length_lines (row ∷ rows) (w ∷ words) within = ap suc (length_lines rows words (omega (arith, within)))

  -- the bytes of a result file behind its header
  rows_text : (rows : List Command) (words : List Said) → result_rows line (take (length words) rows) words ≡ concat (result_lines line rows words)
  unfolding result_rows
  rows_text [] [] = refl
  rows_text [] (w ∷ words) = refl
  rows_text (row ∷ rows) [] = refl
  rows_text (row ∷ rows) (w ∷ words) = ap (λ (l : List ℕ). line row w ++ l) (rows_text rows words)

-- a row's desk, its owner, and whether it is H's
abbrev desk : SentRow → ℕ
desk s = s.desk

abbrev owner : List ℕ → SentRow → Option ℕ
owner country s = owner_of country s.command

abbrev mine : List ℕ → ℕ → SentRow → Bool
mine country H s = is_holder H (owner_of country s.command)

-- the commands of rows, with their moment
abbrev stamped : ℤ → List SentRow → List Stamped
stamped at sent = map (at_moment at) (all_rows sent)

module _ (at : ℤ) (country : List ℕ) where
  -- H's part of rows
  part_is : (H : ℕ) (sent : List SentRow) → part country H (stamped at sent) ≡ stamped at (filter (mine country H) sent)
  part_is H sent =
      filter_map (λ s. is_holder H (owner_of country s.command)) (at_moment at) (all_rows sent)
      ∙ ap (map (at_moment at)) (filter_map (λ c. is_holder H (owner_of country c)) (λ s. s.command) sent)

  told_more : (H : ℕ) (s : SentRow) (w : Said) (list : List Stamped) (outcomes : List Outcome) (b : Bool) → mine country H s ≡ b
      → told country H (at_moment at s.command ∷ list) (outcome.Said w ∷ outcomes) ≡ (if b then w ∷ told country H list outcomes else told country H list outcomes)
  told_more H s w list outcomes true is = rw is refl
  told_more H s w list outcomes false is = rw is refl

  own_more : (H : ℕ) (s : SentRow) (w : Said) (sent : List SentRow) (words : List Said) (b : Bool) → mine country H s ≡ b
      → own desk (owner country) H (s ∷ sent) (w ∷ words) ≡ (if b then w ∷ own desk (owner country) H sent words else own desk (owner country) H sent words)
  own_more H s w sent words true is = rw is refl
  own_more H s w sent words false is = rw is refl

  -- what H was told stands at H's places
  own_told : (H : ℕ) (sent : List SentRow) (words : List Said) → own desk (owner country) H sent words ≡ told country H (stamped at sent) (all_said words)
  own_told H [] words = refl
  own_told H (s ∷ sent) [] = refl
  own_told H (s ∷ sent) (w ∷ words) =
      own_more H s w sent words (mine country H s) refl
      ∙ ap (λ (l : List Said). if mine country H s then w ∷ l else l) (own_told H sent words)
      ∙ sym (told_more H s w (stamped at sent) (all_said words) (mine country H s) refl)

  -- where nothing failed, H was told what H's machine says to H's part
  own_by_machine : (H : ℕ) (books : ℕ → Book) (sent : List SentRow) (words : List Said) (c : Content) → IsRun country books (stamped at sent) (all_said words) c
      → length words ≡ length sent → own desk (owner country) H sent words ≡ machine_says H (books H) (stamped at (filter (mine country H) sent))
  own_by_machine H books sent words c run same =
      let each : length words ≡ length (stamped at sent) = same ∙ sym (length-map (all_rows sent) (at_moment at) ∙ length-map sent (λ s. s.command)) in
      own_told H sent words ∙ run.answers H
      ∙ ap (machine_says H (books H)) (all_heard country H (stamped at sent) words each ∙ part_is H sent)

  module _ (line : Command → Said → List ℕ) where
    own_lines_by : (H : ℕ) (s : SentRow) (sent : List SentRow) (w : Said) (words : List Said) (b : Bool) → mine country H s ≡ b
        → own desk (owner country) H sent (result_lines line (all_rows sent) words) ≡ result_lines line (all_rows (filter (mine country H) sent)) (own desk (owner country) H sent words)
        → own desk (owner country) H (s ∷ sent) (result_lines line (all_rows (s ∷ sent)) (w ∷ words)) ≡ result_lines line (all_rows (filter (mine country H) (s ∷ sent))) (own desk (owner country) H (s ∷ sent) (w ∷ words))
    own_lines_by H s sent w words true is same = rw is (ap (λ (l : List (List ℕ)). line s.command w ∷ l) same)
    own_lines_by H s sent w words false is same = rw is same

    -- the result rows at H's places are those of H's rows and of what stands there
    own_are_lines : (H : ℕ) (sent : List SentRow) (words : List Said)
        → own desk (owner country) H sent (result_lines line (all_rows sent) words) ≡ result_lines line (all_rows (filter (mine country H) sent)) (own desk (owner country) H sent words)
    own_are_lines H [] words = refl
    own_are_lines H (s ∷ sent) [] = sym (no_lines line (all_rows (filter (mine country H) (s ∷ sent))))
    own_are_lines H (s ∷ sent) (w ∷ words) = own_lines_by H s sent w words (mine country H s) refl (own_are_lines H sent words)

    lines_by_machine : (H : ℕ) (books : ℕ → Book) (sent : List SentRow) (words : List Said) (c : Content) → IsRun country books (stamped at sent) (all_said words) c
        → length words ≡ length sent
        → own desk (owner country) H sent (result_lines line (all_rows sent) words)
        ≡ result_lines line (all_rows (filter (mine country H) sent)) (machine_says H (books H) (stamped at (filter (mine country H) sent)))
    lines_by_machine H books sent words c run same =
        own_are_lines H sent words ∙ ap (result_lines line (all_rows (filter (mine country H) sent))) (own_by_machine H books sent words c run same)

    -- the result row of a row that nobody owns is that of what the table says over an account with nothing in it
    IsNobodys : SentRow → List ℕ → Type 0
    IsNobodys s text = owner_of country s.command ≡ None → text ≡ line s.command (said (empty_account country) at s.command)

    nobodys_hold : (sent : List SentRow) (words : List Said) → AllZip (IsToldOfNobody country) (stamped at sent) (all_said words)
        → Holds desk (owner country) IsNobodys sent (result_lines line (all_rows sent) words)
    unfolding IsNobodys
    nobodys_hold [] words each = tt
    nobodys_hold (s ∷ sent) [] each = tt
    nobodys_hold (s ∷ sent) (w ∷ words) each = (λ none. ap (line s.command) (each.0 none), nobodys_hold sent words each.1)

    holds_take : (sent : List SentRow) (texts : List (List ℕ)) → Holds desk (owner country) IsNobodys sent (take (length sent) texts) → Holds desk (owner country) IsNobodys sent texts
    holds_take [] texts each = tt
    holds_take (s ∷ sent) [] each = tt
    holds_take (s ∷ sent) (x ∷ texts) each = (each.0, holds_take sent texts each.1)

    nobodys_one : (s : SentRow) (x y : List ℕ) → owner country s ≡ None → IsNobodys s x → IsNobodys s y → x ≡ y
    unfolding IsNobodys
    nobodys_one s x y none first second = first none ∙ sym (second none)

-- ---- the text of a whole batch

module _ {D : Type 0} (view : DeskView D) (line : Command → Said → List ℕ) (header : List ℕ) (at : ℤ) (country : List ℕ)
    (rows : List Command) (r : BatchRun) (words : List Said) (old new : D) (batch : IsBatchAt view (form_of line header at) country rows (batch_of r words old new)) where
  text_of : r.text.items ≡ header ++ concat (result_lines line rows words)
  text_of =
      subst (λ s. r.text.items ≡ header ++ result_rows line (take (length s) rows) s) batch.said_is batch.done.text
      ∙ ap (λ (l : List ℕ). header ++ l) (rows_text line rows words)

  -- while no fault has shut the desk, its content is sound, and of its country
  end_is : view.is_live new → ((view.content new).country ≡ country) × IsSound (view.content new)
  end_is still_live =
      let run = batch_is_run view line header at country rows r words old new batch in
      (ap (λ (c : Content). c.country) (run.2 still_live) ∙ run.1.country_stays, subst IsSound (sym (run.2 still_live)) run.1.sound)

  all_said_of : r.stopped ≡ None → length words ≡ length rows
  all_said_of whole = subst (λ o. Ends rows words o) whole (subst (λ s. Ends rows s r.stopped) batch.said_is batch.done.ends)

-- ---- H's result rows

module _ (at : ℤ) (country : List ℕ) (H : ℕ) (line : Command → Said → List ℕ) where
  -- the result rows of the commands that H was heard with
  abbrev heard_lines : List Stamped → List Outcome → List (List ℕ)
  heard_lines list outcomes = result_lines line (map (λ s. s.command) (heard country H list outcomes)) (told country H list outcomes)

  one_more : (row : Command) (w : Said) (list : List Stamped) (outcomes : List Outcome) (lines : List (List ℕ)) (b : Bool) → is_holder H (owner_of country row) ≡ b
      → lines ≡ heard_lines list outcomes
      → (if is_holder H (owner_of country row) then line row w ∷ lines else lines) ≡ heard_lines (at_moment at row ∷ list) (outcome.Said w ∷ outcomes)
  one_more row w list outcomes lines true is same = rw is (ap (λ (l : List (List ℕ)). line row w ∷ l) same)
  one_more row w list outcomes lines false is same = rw is same

  -- H's result rows are those, where nothing was said to what stands behind
  own_heard : (rows : List Command) (words : List Said) (others : List Outcome)
      → ((more : List Command) → told country H (map (at_moment at) (take (length others) more)) others ≡ [])
      → own_lines country H line rows words
      ≡ heard_lines (map (at_moment at) (take (length (all_said words ++ others)) rows)) (all_said words ++ others)
  own_heard [] [] others none = sym (ap (result_lines line (map (λ s. s.command) (heard country H (map (at_moment at) (take (length others) [])) others))) (none []) ∙ no_lines line _)
  own_heard (row ∷ rows) [] others none =
      sym (ap (result_lines line (map (λ s. s.command) (heard country H (map (at_moment at) (take (length others) (row ∷ rows))) others))) (none (row ∷ rows)) ∙ no_lines line _)
  own_heard [] (w ∷ words) others none = refl
  own_heard (row ∷ rows) (w ∷ words) others none =
      one_more row w (map (at_moment at) (take (length (all_said words ++ others)) rows)) (all_said words ++ others) (own_lines country H line rows words)
      (is_holder H (owner_of country row)) refl (own_heard rows words others none)

  none_told : (stopped : Option Fault) (more : List Command) → told country H (map (at_moment at) (take (length (end_of stopped)) more)) (end_of stopped) ≡ []
  none_told None more = refl
  none_told (Some why) [] = refl
  none_told (Some why) (row ∷ more) = refl

  own_tried : (rows : List Command) (words : List Said) (stopped : Option Fault)
      → own_lines country H line rows words ≡ heard_lines (map (at_moment at) (tried rows words stopped)) (outcomes_of words stopped)
  own_tried rows words stopped =
      own_heard rows words (end_of stopped) (none_told stopped)
      ∙ ap (λ (o : List Outcome). heard_lines (map (at_moment at) (take (length o) rows)) o) (sym (outcomes_are words stopped))

-- H's part of a beginning of rows is a beginning of H's part
part_begins : (at : ℤ) (country : List ℕ) (H n : ℕ) (rows : List Command)
    → part country H (map (at_moment at) (take n rows)) ≡ take (length (part country H (map (at_moment at) (take n rows)))) (part country H (map (at_moment at) rows))
part_begins at country H n rows =
    subst (λ (l : List Stamped). part country H l ≡ take (length (part country H l)) (part country H (map (at_moment at) rows))) (take-map (at_moment at) n rows)
    (filter_take (λ s. is_holder H (owner_of country s.command)) n (map (at_moment at) rows))

-- ---- batches that are split

module _ {D E : Type 0} (view : DeskView D) (other : DeskView E)
    (line : Command → Said → List ℕ) (header : List ℕ) (at : ℤ) (country : List ℕ) (f : ℕ → ℕ) (desks : ℕ) (sent : List SentRow)
    (r : BatchRun) (runs : ℕ → BatchRun) (words : List Said) (answers : ℕ → List Said) (old new : D) (olds news : ℕ → E)
    (split : IsSplitBatch view other (form_of line header at) (shards_of country f desks) sent (batch_of r words old new)
    (λ i. batch_of (runs i) (answers i) (olds i) (news i))) where
  begun_alike : (H : ℕ) → fresh H (view.content old) ≡ fresh H (other.content (olds (f H)))
  begun_alike H =
      same_fresh H (view.content old) (other.content (olds (f H)))
      (split.one.country_is ∙ sym (split.many (f H) (split.placed H)).country_is) (sym (split.begun H))

  one_within : length words ≤ length (all_rows sent)
  one_within = said_within view line header at country (all_rows sent) r words old new split.one

  module _ (n : ℕ) (did : n ≤ length words) (others_did : (i : ℕ) → i < desks → length (rows_for i (take n sent)) ≤ length (answers i)) where
    -- the first rows, at the one desk and at desk i
    first_rows : take n (all_rows sent) ≡ all_rows (take n sent)
    first_rows = take-map (λ s. s.command) n sent

    -- how many of them are desk i's
    abbrev share : ℕ → ℕ
    share i = length (filter (λ s. s.desk == i) (take n sent))

    their_rows : (i : ℕ) → take (share i) (rows_for i sent) ≡ rows_for i (take n sent)
    their_rows i =
        take-map (λ s. s.command) (share i) (filter (λ s. s.desk == i) sent)
        ∙ ap (map (λ s. s.command)) (sym (filter_take (λ s. s.desk == i) n sent))

    share_done : (i : ℕ) → i < desks → share i ≤ length (answers i)
    share_done i below =
        let number : length (rows_for i (take n sent)) ≡ share i = length-map (filter (λ s. s.desk == i) (take n sent)) (λ s. s.command) in
        let did_them = others_did i below in
        omega (arith, number, did_them)

    share_within : (i : ℕ) → i < desks → length (answers i) ≤ length (rows_for i sent)
    share_within i below = said_within other line header at country (rows_for i sent) (runs i) (answers i) (olds i) (news i) (split.many i below)

    -- so many were said
    first_number : length (take n words) ≡ length (take n sent)
    first_number =
        let rows : length (all_rows sent) ≡ length sent = length-map sent (λ s. s.command) in
        let within = one_within in
        rw (length-take, length-take) (omega (arith, did, rows, within))

    their_number : (i : ℕ) → i < desks → length (take (share i) (answers i)) ≡ share i
    their_number i below = let done = share_done i below in rw length-take (omega (arith, done))

    -- a run of the first rows at each
    one_run : (c : Content) × IsRun country (λ H. fresh H (view.content old)) (stamped at (take n sent)) (all_said (take n words)) c
    one_run =
        let run = beginning_is_run view line header at country (all_rows sent) r words old new split.one n did in
        (run.0, subst (λ l. IsRun country (λ H. fresh H (view.content old)) (map (at_moment at) l) (all_said (take n words)) run.0) first_rows run.1)

    their_run : (i : ℕ) → i < desks → (c : Content)
        × IsRun country (λ H. fresh H (other.content (olds i))) (stamped at (filter (λ s. s.desk == i) (take n sent))) (all_said (take (share i) (answers i))) c
    their_run i below =
        let run = beginning_is_run other line header at country (rows_for i sent) (runs i) (answers i) (olds i) (news i) (split.many i below) (share i) (share_done i below) in
        (run.0, subst (λ l. IsRun country (λ H. fresh H (other.content (olds i))) (map (at_moment at) l) (all_said (take (share i) (answers i))) run.0) (their_rows i) run.1)

    -- the result rows for them
    first_lines : take n (result_lines line (all_rows sent) words) ≡ result_lines line (all_rows (take n sent)) (take n words)
    first_lines = take_lines line n (all_rows sent) words ∙ ap (λ l. result_lines line l (take n words)) first_rows

    their_lines : (i : ℕ) → take (share i) (result_lines line (rows_for i sent) (answers i)) ≡ result_lines line (rows_for i (take n sent)) (take (share i) (answers i))
    their_lines i = take_lines line (share i) (rows_for i sent) (answers i) ∙ ap (λ l. result_lines line l (take (share i) (answers i))) (their_rows i)

    placed : AllByRecursion (IsPlaced desk (owner country) f desks) (take n sent)
    placed = all_take (IsRowSentTo country f desks) n sent split.sent_to

    fits : Fits desk (owner country) desks (take n sent) (λ i. result_lines line (rows_for i sent) (answers i))
    fits i below =
        let number : length (result_lines line (rows_for i sent) (answers i)) ≡ length (answers i) = length_lines line (rows_for i sent) (answers i) (share_within i below) in
        let done = share_done i below in
        omega (arith, number, done)

    -- what stands at H's places
    one_own : (H : ℕ) → own desk (owner country) H (take n sent) (take n (result_lines line (all_rows sent) words))
        ≡ result_lines line (all_rows (filter (mine country H) (take n sent))) (machine_says H (fresh H (view.content old)) (stamped at (filter (mine country H) (take n sent))))
    one_own H =
        ap (own desk (owner country) H (take n sent)) first_lines
        ∙ lines_by_machine at country line H (λ G. fresh G (view.content old)) (take n sent) (take n words) one_run.0 one_run.1 first_number

    their_own : (H : ℕ) → own desk (owner country) H (at_desk desk (owner country) (f H) (take n sent)) (result_lines line (rows_for (f H) sent) (answers (f H)))
        ≡ result_lines line (all_rows (filter (mine country H) (take n sent))) (machine_says H (fresh H (view.content old)) (stamped at (filter (mine country H) (take n sent))))
    their_own H =
        let i = f H in
        let below = split.placed H in
        let theirs = filter (λ s. s.desk == i) (take n sent) in
        let run = their_run i below in
        sym (own_take desk (owner country) H theirs (result_lines line (rows_for i sent) (answers i)))
        ∙ ap (own desk (owner country) H theirs) (their_lines i)
        ∙ lines_by_machine at country line H (λ G. fresh G (other.content (olds i))) theirs (take (share i) (answers i)) run.0 run.1 (their_number i below)
        ∙ ap₂ (λ (b : Book) (l : List SentRow). result_lines line (all_rows l) (machine_says H b (stamped at l))) (sym (begun_alike H))
        (sym (mine_at_home desk (owner country) f desks H (take n sent) placed))

    one_holds : Holds desk (owner country) (IsNobodys at country line) (take n sent) (take n (result_lines line (all_rows sent) words))
    one_holds =
        subst (Holds desk (owner country) (IsNobodys at country line) (take n sent)) (sym first_lines)
        (nobodys_hold at country line (take n sent) (take n words) one_run.1.nobodys)

    their_holds : (i : ℕ) → i < desks
        → Holds desk (owner country) (IsNobodys at country line) (at_desk desk (owner country) i (take n sent)) (result_lines line (rows_for i sent) (answers i))
    their_holds i below =
        let theirs = filter (λ s. s.desk == i) (take n sent) in
        holds_take at country line theirs (result_lines line (rows_for i sent) (answers i))
        (subst (Holds desk (owner country) (IsNobodys at country line) theirs) (sym (their_lines i))
        (nobodys_hold at country line theirs (take (share i) (answers i)) (their_run i below).1.nobodys))

    first_gathered : take n (result_lines line (all_rows sent) words) ≡ gathered (desks_of (take n sent)) (λ i. result_lines line (rows_for i sent) (answers i))
    first_gathered =
        let lists = λ (i : ℕ). result_lines line (rows_for i sent) (answers i) in
        let xs = take n (result_lines line (all_rows sent) words) in
        let ys = gathered (desks_of (take n sent)) lists in
        let one_number : length xs ≡ length (take n sent) =
        ap length first_lines ∙ length_lines line (all_rows (take n sent)) (take n words) (first_there) ∙ first_number in
        same_places desk (owner country) (take n sent) xs ys one_number
        (length_gathered desk (owner country) f desks (take n sent) lists placed fits)
        (nobodys_alike desk (owner country) (IsNobodys at country line) (nobodys_one at country line) (take n sent) xs ys one_holds
        (gathered_holds desk (owner country) (IsNobodys at country line) f desks (take n sent) lists placed their_holds))
        (λ H. one_own H ∙ sym (their_own H) ∙ sym (gathered_own desk (owner country) f desks H (take n sent) lists placed fits))
      where
        first_there : length (take n words) ≤ length (all_rows (take n sent))
        first_there =
            let rows : length (all_rows (take n sent)) ≡ length (take n sent) = length-map (take n sent) (λ s. s.command) in
            let number = first_number in
            omega (arith, rows, number)

pub rows_are_gathered : {D E : Type 0} (view : DeskView D) (other : DeskView E)
    → RowsAreGathered view other
rows_are_gathered {E = E} view other form shards sent batch batches split n did others_did =
    let line = form.line in
    let header = form.header in
    let at = form.at in
    let country = shards.country in
    let f = shards.home in
    let desks = shards.count in
    let r = batch.run in
    let words = batch.said in
    let old = batch.old in
    let new = batch.new in
    let runs : ℕ → BatchRun = λ i. (batches i).run in
    let answers : ℕ → List Said = λ i. (batches i).said in
    let olds : ℕ → E = λ i. (batches i).old in
    let news : ℕ → E = λ i. (batches i).new in
    first_gathered view other line header at country f desks sent r runs words answers old new olds news split n
    (subst (λ m. n ≤ m) (done_is view line header at country (all_rows sent) r words old new split.one) did)
    (λ i below. subst (λ m. length (rows_for i (take n sent)) ≤ m)
    (done_is other line header at country (rows_for i sent) (runs i) (answers i) (olds i) (news i) (split.many i below)) (others_did i below))

-- where no fault stopped any of them, each did all of its rows
module _ {D E : Type 0} (view : DeskView D) (other : DeskView E)
    (line : Command → Said → List ℕ) (header : List ℕ) (at : ℤ) (country : List ℕ) (f : ℕ → ℕ) (desks : ℕ) (sent : List SentRow)
    (r : BatchRun) (runs : ℕ → BatchRun) (words : List Said) (answers : ℕ → List Said) (old new : D) (olds news : ℕ → E)
    (split : IsSplitBatch view other (form_of line header at) (shards_of country f desks) sent (batch_of r words old new)
    (λ i. batch_of (runs i) (answers i) (olds i) (news i)))
    (whole : r.stopped ≡ None) (others_whole : (i : ℕ) → i < desks → (runs i).stopped ≡ None) where
  all_number : length words ≡ length sent
  all_number = all_said_of view line header at country (all_rows sent) r words old new split.one whole ∙ length-map sent (λ s. s.command)

  all_their_number : (i : ℕ) → i < desks → length (answers i) ≡ length (rows_for i sent)
  all_their_number i below = all_said_of other line header at country (rows_for i sent) (runs i) (answers i) (olds i) (news i) (split.many i below) (others_whole i below)

  all_sent : take (length sent) sent ≡ sent
  all_sent = take_all (length sent) sent (omega arith)

  all_others_did : (i : ℕ) → i < desks → length (rows_for i (take (length sent) sent)) ≤ length (answers i)
  all_others_did i below =
      let number = all_their_number i below in
      subst (λ (l : List SentRow). length (rows_for i l) ≤ length (answers i)) (sym all_sent) (omega (arith, number))

  one_did : length sent ≤ length words
  one_did = let number = all_number in omega (arith, number)

  all_lines : take (length sent) (result_lines line (all_rows sent) words) ≡ result_lines line (all_rows sent) words
  all_lines =
      let number = all_number in
      let rows : length (all_rows sent) ≡ length sent = length-map sent (λ s. s.command) in
      let lines : length (result_lines line (all_rows sent) words) ≡ length words = length_lines line (all_rows sent) words (omega (arith, number, rows)) in
      take_all (length sent) (result_lines line (all_rows sent) words) (omega (arith, number, lines))

  gathered_all : result_lines line (all_rows sent) words ≡ gathered (desks_of sent) (λ i. result_lines line (rows_for i sent) (answers i))
  gathered_all =
      sym all_lines
      ∙ first_gathered view other line header at country f desks sent r runs words answers old new olds news split (length sent) one_did all_others_did
      ∙ ap (λ (l : List SentRow). gathered (desks_of l) (λ i. result_lines line (rows_for i sent) (answers i))) all_sent

-- of rows that were all done none failed
unfailed : (at : ℤ) (country : List ℕ) (H : ℕ) (rows : List Command) (r : BatchRun) (words : List Said) → r.stopped ≡ None → length words ≡ length rows
    → failures_in country H at rows r words ≡ map (λ _. false) (part country H (map (at_moment at) rows))
unfailed at country H rows r words whole same =
    ap (λ (o : Option Fault). failures country H (map (at_moment at) (take (length (outcomes_of words o)) rows)) (outcomes_of words o)) whole
    ∙ ap (λ (l : List Command). failures country H (map (at_moment at) l) (all_said words)) (take_all (length (all_said words)) rows (omega (arith, same, number)))
    ∙ none_failed country H (map (at_moment at) rows) words (same ∙ sym (length-map rows (at_moment at)))
  where
    number : length (all_said words) ≡ length words
    number = length-map words (λ s. outcome.Said s)

-- H's part of all rows is H's part of those that are sent to H's desk
whole_part : (at : ℤ) (country : List ℕ) (f : ℕ → ℕ) (desks H : ℕ) (sent : List SentRow) → AllByRecursion (IsRowSentTo country f desks) sent
    → part country H (map (at_moment at) (all_rows sent)) ≡ part country H (map (at_moment at) (rows_for (f H) sent))
whole_part at country f desks H sent sent_to =
    part_is at country H sent
    ∙ ap (stamped at) (mine_at_home desk (owner country) f desks H sent sent_to)
    ∙ sym (part_is at country H (filter (λ s. s.desk == f H) sent))

pub result_is_gathered : {D E : Type 0} (view : DeskView D) (other : DeskView E)
    → ResultIsGathered view other
result_is_gathered {E = E} view other form shards sent batch batches split whole others_whole =
    let line = form.line in
    let header = form.header in
    let at = form.at in
    let country = shards.country in
    let f = shards.home in
    let desks = shards.count in
    let r = batch.run in
    let words = batch.said in
    let old = batch.old in
    let new = batch.new in
    let runs : ℕ → BatchRun = λ i. (batches i).run in
    let answers : ℕ → List Said = λ i. (batches i).said in
    let olds : ℕ → E = λ i. (batches i).old in
    let news : ℕ → E = λ i. (batches i).new in (
      λ i below. text_of other line header at country (rows_for i sent) (runs i) (answers i) (olds i) (news i) (split.many i below),
      text_of view line header at country (all_rows sent) r words old new split.one
          ∙ ap (λ (l : List (List ℕ)). header ++ concat l)
          (gathered_all view other line header at country f desks sent r runs words answers old new olds news split whole others_whole),
      λ H. unfailed at country H (all_rows sent) r words whole (all_said_of view line header at country (all_rows sent) r words old new split.one whole)
          ∙ ap (map (λ _. false)) (whole_part at country f desks H sent split.sent_to)
          ∙ sym (unfailed at country H (rows_for (f H) sent) (runs (f H)) (answers (f H)) (others_whole (f H) (split.placed H))
          (all_their_number view other line header at country f desks sent r runs words answers old new olds news split whole others_whole (f H) (split.placed H))),
    )

-- what split batches tell H
module _ {D E : Type 0} (view : DeskView D) (other : DeskView E)
    (line : Command → Said → List ℕ) (header : List ℕ) (at : ℤ) (country : List ℕ) (f : ℕ → ℕ) (desks : ℕ) (sent : List SentRow)
    (r : BatchRun) (runs : ℕ → BatchRun) (words : List Said) (answers : ℕ → List Said) (old new : D) (olds news : ℕ → E)
    (split : IsSplitBatch view other (form_of line header at) (shards_of country f desks) sent (batch_of r words old new)
    (λ i. batch_of (runs i) (answers i) (olds i) (news i)))
    (H : ℕ) (failed : failures_in country H at (all_rows sent) r words ≡ failures_in country H at (rows_for (f H) sent) (runs (f H)) (answers (f H))) where
  abbrev list : List Stamped
  list = stamped_rows at (all_rows sent) r words

  abbrev outcomes : List Outcome
  outcomes = outcomes_of words r.stopped

  abbrev their_list : List Stamped
  their_list = stamped_rows at (rows_for (f H) sent) (runs (f H)) (answers (f H))

  abbrev their_outcomes : List Outcome
  their_outcomes = outcomes_of (answers (f H)) (runs (f H)).stopped

  one_batch : (c : Content) × IsRun country (λ G. fresh G (view.content old)) list outcomes c × (view.is_live new → view.content new ≡ c)
  one_batch = batch_is_run view line header at country (all_rows sent) r words old new split.one

  their_batch : (c : Content) × IsRun country (λ G. fresh G (other.content (olds (f H)))) their_list their_outcomes c × (other.is_live (news (f H)) → other.content (news (f H)) ≡ c)
  their_batch =
      batch_is_run other line header at country (rows_for (f H) sent) (runs (f H)) (answers (f H)) (olds (f H)) (news (f H)) (split.many (f H) (split.placed H))

  -- as many of them were tried
  same_number : length (part country H list) ≡ length (part country H their_list)
  same_number =
      sym (outcome_each country H list outcomes one_batch.1.one_each) ∙ ap length failed
      ∙ outcome_each country H their_list their_outcomes their_batch.1.one_each

  agree : part country H list ≡ part country H their_list
  agree =
      part_begins at country H (length outcomes) (all_rows sent)
      ∙ ap₂ (λ (n : ℕ) (l : List Stamped). take n l) same_number (whole_part at country f desks H sent split.sent_to)
      ∙ sym (part_begins at country H (length their_outcomes) (rows_for (f H) sent))

  heard_same : heard country H list outcomes ≡ heard country H their_list their_outcomes
  heard_same = heard_alike country H list their_list outcomes their_outcomes one_batch.1.one_each their_batch.1.one_each agree failed

  both : (told country H list outcomes ≡ told country H their_list their_outcomes) × (rows_of H one_batch.0 ≡ rows_of H their_batch.0)
  both =
      runs_alike country H (λ G. fresh G (view.content old)) (λ G. fresh G (other.content (olds (f H)))) list their_list outcomes their_outcomes one_batch.0 their_batch.0
      one_batch.1 their_batch.1
      (same_fresh H (view.content old) (other.content (olds (f H))) (split.one.country_is ∙ sym (split.many (f H) (split.placed H)).country_is) (sym (split.begun H)))
      heard_same

  lines_alike : own_lines country H line (all_rows sent) words ≡ own_lines country H line (rows_for (f H) sent) (answers (f H))
  lines_alike =
      own_tried at country H line (all_rows sent) words r.stopped
      ∙ ap₂ (λ (h : List Stamped) (t : List Said). result_lines line (map (λ s. s.command) h) t)
      heard_same both.0
      ∙ sym (own_tried at country H line (rows_for (f H) sent) (answers (f H)) (runs (f H)).stopped)

  rows_alike : view.is_live new → other.is_live (news (f H)) → rows_of H (other.content (news (f H))) ≡ rows_of H (view.content new)
  rows_alike live other_live = ap (rows_of H) (their_batch.2 other_live) ∙ sym both.1 ∙ ap (rows_of H) (sym (one_batch.2 live))

pub batches_tell_as_one : {D E : Type 0} (view : DeskView D) (other : DeskView E)
    → BatchesTellAsOne view other
batches_tell_as_one {E = E} view other form shards sent batch batches split H failed =
    let line = form.line in
    let header = form.header in
    let at = form.at in
    let country = shards.country in
    let f = shards.home in
    let desks = shards.count in
    let r = batch.run in
    let words = batch.said in
    let old = batch.old in
    let new = batch.new in
    let runs : ℕ → BatchRun = λ i. (batches i).run in
    let answers : ℕ → List Said = λ i. (batches i).said in
    let olds : ℕ → E = λ i. (batches i).old in
    let news : ℕ → E = λ i. (batches i).new in (
      lines_alike view other line header at country f desks sent r runs words answers old new olds news split H failed,
      rows_alike view other line header at country f desks sent r runs words answers old new olds news split H failed,
    )

pub batches_hold_as_one : UnionIsOneContent → {D E : Type 0} (view : DeskView D) (other : DeskView E)
    → BatchesHoldAsOne view other
batches_hold_as_one law {E = E} view other form shards sent batch batches split failed live others_live =
    let line = form.line in
    let header = form.header in
    let at = form.at in
    let country = shards.country in
    let f = shards.home in
    let desks = shards.count in
    let r = batch.run in
    let words = batch.said in
    let old = batch.old in
    let new = batch.new in
    let runs : ℕ → BatchRun = λ i. (batches i).run in
    let answers : ℕ → List Said = λ i. (batches i).said in
    let olds : ℕ → E = λ i. (batches i).old in
    let news : ℕ → E = λ i. (batches i).new in
    let held = end_is view line header at country (all_rows sent) r words old new split.one live in
    union_is_content law country f desks (view.content new) (λ i. other.content (news i)) held.0 held.1 split.placed
    (λ i below. end_is other line header at country (rows_for i sent) (runs i) (answers i) (olds i) (news i) (split.many i below) (others_live i below))
    (λ H. rows_alike view other line header at country f desks sent r runs words answers old new olds news split H (failed H) live (others_live (f H) (split.placed H)))
