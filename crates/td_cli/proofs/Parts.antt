-- Runs over a file, of streams and of rows, are one machine's for each holder.
use Rattle.std.proofs.Common.{◌≡◌, ◌∙◌, ℕ, ℤ, false, List, [], ◌∷◌, ◌++◌, map, refl, sym, ap, subst, inl, inr}
use Rattle.std.proofs.lemmas.Grind.{flat_map-append}
use Rattle.std.proofs.lemmas.List.{append-nil, map-append}
use Rattle.std.specs.Prelude.{IsTrue}
use Rattle.sqlite.specs.Files.{file_state}
use Rattle.sqlite_wal.specs.Recovery.{Image}
use Rattle.sqlite_disk.specs.declared.Disk.{Ghosts}
use Rattle.td_commands.specs.declared.command.Command.{Command}
use Rattle.td_commands.specs.declared.command.Stamped.{Stamped}
use Rattle.td_commands.specs.declared.said.Said.{Said}
use Rattle.td_model.specs.Book.{Book, account_of, fresh_book}
use Rattle.td_model.specs.Machine.{book_after, machine_book, machine_says, IsGrown}
use Rattle.td_desk.specs.declared.running.Outcome.{Outcome}
use Rattle.td_model.specs.Content.{Content, IsSound}
use Rattle.td_desk.specs.Runs as desk
use Rattle.http_wire.specs.Stream.{Exchange}
use Rattle.td_http.specs.Private.{heard_over, told_over, IsServedOver}
use Rattle.td_http.specs.Serving.{heard_in, told_in, machine_replies, HolderRequest}
use Rattle.td_http.proofs.Served.{machine_book-++}
use Rattle.td_batch.specs.declared.running.BatchRun.{BatchRun}
use Rattle.td_batch.specs.Laws.{stamped_rows}
use Rattle.td_batch.specs.Runs.{IsRunOf, outcomes_of}
use Rattle.td_files.specs.Found.{FileSeen, IsClean, over_file}
use Rattle.td_jobs.specs.Desks.{BeginAlike, fresh_books}
use Rattle.td_cli.specs.BatchLaws.{commands_tried, outcomes_tried}
use Rattle.td_cli.specs.Desks.{BeginsKept}
use Rattle.td_cli.specs.Parts.{Part, stream, rows, Ask, Told, reply, result, over_stream, as_row, heard_part, told_part, heard_of, told_of, machine_tells, book_of, ArePartsTold, IsWork}
use Rattle.td_cli.specs.Runs.{GoesOnFrom, IsRun}
use Rattle.td_cli.proofs.Desks.{fresh_tied}
use Rattle.td_cli.proofs.BatchesAlike.{no_run}
use Rattle.td_cli.proofs.Later.{batch_clean}
use Rattle.td_cli.proofs.Runs.{begun_country, begun_live, begun_sound, found_left}

-- a command that came over a stream, and one that came as a row
abbrev streamed : HolderRequest → Ask
streamed r = (r.0, over_stream r.1)

abbrev rowed : Stamped → Ask
rowed s = (s, as_row)

-- what the machine tells is its replies, and what it says
tells_replies : (H : ℕ) (book : Book) (list : List HolderRequest) → map (λ bytes. reply bytes) (machine_replies H book list) ≡ machine_tells H book (map streamed list)
tells_replies H book [] = refl
tells_replies H book (r ∷ list) = rw (tells_replies H (book_after H book r.0) list) refl

tells_said : (H : ℕ) (book : Book) (list : List Stamped) → map (λ said. result said) (machine_says H book list) ≡ machine_tells H book (map rowed list)
tells_said H book [] = refl
tells_said H book (s ∷ list) = rw (tells_said H (book_after H book s) list) refl

-- the commands that came so
commands_streamed : (list : List HolderRequest) → map (λ (ask : Ask). ask.0) (map streamed list) ≡ map (λ (r : HolderRequest). r.0) list
commands_streamed [] = refl
commands_streamed (r ∷ list) = ap (λ (l : List Stamped). r.0 ∷ l) (commands_streamed list)

commands_rowed : (list : List Stamped) → map (λ (ask : Ask). ask.0) (map rowed list) ≡ list
commands_rowed [] = refl
commands_rowed (s ∷ list) = ap (λ (l : List Stamped). s ∷ l) (commands_rowed list)

-- what it tells to one list and then another
machine_tells-++ : (H : ℕ) (book : Book) (xs ys : List Ask) → machine_tells H book (xs ++ ys) ≡ machine_tells H book xs ++ machine_tells H (book_of H book xs) ys
machine_tells-++ H book [] ys = refl
machine_tells-++ H book (x ∷ xs) ys = rw (machine_tells-++ H (book_after H book x.0) xs ys) refl

-- a tied content, from other books that are the same
tied_by : (new : Content) (books others : ℕ → Book) → ((H : ℕ) → books H ≡ others H) → desk.IsTied new books → desk.IsTied new others
tied_by new books others same tied = record {
  each = λ H. tied.each H ∙ ap (account_of H) (same H);
  grown = λ H. subst (λ (b : Book). IsGrown H b) (same H) (tied.grown H);
}

-- H's requests over streams, as parts
heard_streams : (country : List ℕ) (H : ℕ) (streams : List (List Exchange)) → heard_of country H (map (λ es. stream es) streams) ≡ map streamed (heard_over country H streams)
heard_streams country H [] = refl
heard_streams country H (es ∷ streams) =
    ap (λ (l : List Ask). map streamed (heard_in country H 0 es) ++ l) (heard_streams country H streams)
    ∙ sym (map-append streamed (heard_in country H 0 es) (heard_over country H streams))

told_streams : (country : List ℕ) (H : ℕ) (streams : List (List Exchange)) → told_of country H (map (λ es. stream es) streams) ≡ map (λ bytes. reply bytes) (told_over country H streams)
told_streams country H [] = refl
told_streams country H (es ∷ streams) =
    ap (λ (l : List Told). map (λ bytes. reply bytes) (told_in country H 0 es) ++ l) (told_streams country H streams)
    ∙ sym (map-append (λ bytes. reply bytes) (told_in country H 0 es) (told_over country H streams))

-- streams that were served
pub streams_told : (country : List ℕ) (books : ℕ → Book) (streams : List (List Exchange)) (new : Content) → IsServedOver country books streams new
    → ArePartsTold country books (map (λ es. stream es) streams) new
streams_told country books streams new served = record {
  answers = λ H. told_streams country H streams ∙ ap (map (λ bytes. reply bytes)) (served.answers H)
      ∙ tells_replies H (books H) (heard_over country H streams)
      ∙ ap (machine_tells H (books H)) (sym (heard_streams country H streams));
  country_stays = served.country_stays;
  sound = served.sound;
  tied = tied_by new _ _ (λ H. ap (machine_book H (books H)) (sym (commands_streamed (heard_over country H streams)))
      ∙ ap (book_of H (books H)) (sym (heard_streams country H streams))) served.tied;
}

-- rows that were done
pub rows_told : (country : List ℕ) (books : ℕ → Book) (list : List Stamped) (outcomes : List Outcome) (new : Content) → desk.IsRun country books list outcomes new
    → ArePartsTold country books (rows list outcomes ∷ []) new
rows_told country books list outcomes new run = record {
  answers = λ H. append-nil (map (λ said. result said) (desk.told country H list outcomes)) ∙ ap (map (λ said. result said)) (run.answers H)
      ∙ tells_said H (books H) (desk.heard country H list outcomes)
      ∙ ap (machine_tells H (books H)) (sym (append-nil (map rowed (desk.heard country H list outcomes))));
  country_stays = run.country_stays;
  sound = run.sound;
  tied = tied_by new _ _ (λ H. ap (machine_book H (books H)) (sym (commands_rowed (desk.heard country H list outcomes)))
      ∙ ap (book_of H (books H)) (sym (append-nil (map rowed (desk.heard country H list outcomes))))) run.tied;
}

-- no part
pub none_told : (country : List ℕ) (books : ℕ → Book) (c : Content) → c.country ≡ country → IsSound c → desk.IsTied c books → ArePartsTold country books [] c
none_told country books c same sound tied = record { answers = λ H. refl; country_stays = same; sound = sound; tied = tied_by c _ _ (λ H. refl) tied }

-- the books after parts, and those after others behind them
module _ (country : List ℕ) (books : ℕ → Book) (parts others : List Part) where
  abbrev pub then_books : ℕ → Book
  then_books H = book_of H (books H) (heard_of country H parts)

  both_heard : (H : ℕ) → heard_of country H (parts ++ others) ≡ heard_of country H parts ++ heard_of country H others
  both_heard H = flat_map-append (heard_part country H) parts others

  books_then : (H : ℕ) → book_of H (then_books H) (heard_of country H others) ≡ book_of H (books H) (heard_of country H (parts ++ others))
  books_then H =
      sym (ap (book_of H (books H)) (both_heard H)
      ∙ ap (machine_book H (books H)) (map-append (λ (ask : Ask). ask.0) (heard_of country H parts) (heard_of country H others))
      ∙ machine_book-++ H (books H) (map (λ (ask : Ask). ask.0) (heard_of country H parts)) (map (λ (ask : Ask). ask.0) (heard_of country H others)))

  pub both_told : (mid new : Content) → ArePartsTold country books parts mid → ArePartsTold country then_books others new
      → ArePartsTold country books (parts ++ others) new
  both_told mid new first later = record {
    answers = λ H. flat_map-append (told_part country H) parts others
        ∙ rw (first.answers H, later.answers H)
        (sym (ap (machine_tells H (books H)) (both_heard H) ∙ machine_tells-++ H (books H) (heard_of country H parts) (heard_of country H others)));
    country_stays = later.country_stays;
    sound = later.sound;
    tied = tied_by new _ _ books_then later.tied;
  }

module _ {S : Type 0} {disk : Ghosts S} where
  -- runs of streams
  pub streams_work : (country : List ℕ) (opened left : FileSeen disk) (streams : List (List Exchange)) → IsRun country opened streams left
      → IsWork country opened (map (λ es. stream es) streams) left
  streams_work country opened left streams run = record {
    live = run.live;
    country_is = run.country_is;
    sound = run.sound;
    private = λ books tied. streams_told country books streams (over_file.content left) (run.private books tied);
  }

  -- a batch
  pub batch_work : (line : Command → Said → List ℕ) (header : List ℕ) (image : Image) (country : List ℕ) (at : ℤ) (commands : List Command) (r : BatchRun)
      (opened left : FileSeen disk) → BeginsKept image country opened → IsClean left → IsTrue (file_state left).is_open
      → (ran : IsRunOf over_file line header at commands r opened left)
      → IsWork country opened (rows (commands_tried at commands r ran) (outcomes_tried at commands r ran) ∷ []) left
  batch_work line header image country at commands r opened left begins clean live (inl nothing) =
      let was = batch_clean line header at commands r opened left (inl nothing) clean in
      let country_is = begun_country false image country opened begins was in
      let sound = begun_sound false image country opened begins was in
      record {
        live = begun_live false image country opened begins was;
        country_is = country_is;
        sound = sound;
        private = λ books tied.
            subst (λ (d : FileSeen disk). ArePartsTold country books (rows [] [] ∷ []) (over_file.content d)) (sym nothing.0)
            (rows_told country books [] [] (over_file.content opened) (no_run country books (over_file.content opened) country_is sound tied));
      }
  batch_work line header image country at commands r opened left begins clean live (inr done) =
      let was = batch_clean line header at commands r opened left (inr done) clean in
      let country_is = begun_country false image country opened begins was in
      record {
        live = begun_live false image country opened begins was;
        country_is = country_is;
        sound = begun_sound false image country opened begins was;
        private = λ books tied.
            let private = done.private clean (begun_live false image country opened begins was) (begun_sound false image country opened begins was) books tied in
            let list = stamped_rows at commands r done.said in
            let outcomes = outcomes_of done.said r.stopped in
            rows_told country books list outcomes (over_file.content left)
            (subst (λ (c : Content). desk.IsRun country books list outcomes c) (sym (private.2 live))
            (subst (λ (k : List ℕ). desk.IsRun k books list outcomes private.0) country_is private.1));
      }

  -- two pieces of work, the second of which opened the file with what the first left
  pub work_joined : (country : List ℕ) (opened between next left : FileSeen disk) (parts others : List Part) → IsWork country opened parts between
      → GoesOnFrom country between next → IsWork country next others left → IsWork country opened (parts ++ others) left
  work_joined country opened between next left parts others first goes second = record {
    live = first.live;
    country_is = first.country_is;
    sound = first.sound;
    private = λ books tied.
        let told = first.private books tied in
        both_told country books parts others (over_file.content between) (over_file.content left) told
        (second.private (then_books country books parts others)
        (subst (λ (c : Content). desk.IsTied c (then_books country books parts others)) (sym (found_left country between next goes)) told.tied));
  }

-- two pieces of work, over files that began with the same of H, tell H alike what they hear alike
pub work_alike : {S S' : Type 0} {disk : Ghosts S} {disk' : Ghosts S'} (country : List ℕ) (H : ℕ) (opened left : FileSeen disk) (other other_left : FileSeen disk')
    (parts others : List Part) → IsWork country opened parts left → IsWork country other others other_left
    → BeginAlike country H (over_file.content opened) (over_file.content other)
    → heard_of country H parts ≡ heard_of country H others → told_of country H parts ≡ told_of country H others
work_alike country H opened left other other_left parts others one two alike same =
    let first = (one.private (fresh_books (over_file.content opened)) (fresh_tied (over_file.content opened))).answers H in
    let second = (two.private (fresh_books (over_file.content other)) (fresh_tied (over_file.content other))).answers H in
    first ∙ ap (λ (book : Book). machine_tells H book (heard_of country H parts)) (ap fresh_book alike.2)
    ∙ ap (machine_tells H (fresh_books (over_file.content other) H)) same ∙ sym second
