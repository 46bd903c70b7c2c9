-- The work of each job is private, and covered, where it was done at a desk that was ready.
use Rattle.std.proofs.Common.{◌≡◌, ◌∙◌, ℕ, ℤ, List, [], ◌∷◌, map, Option, None, Some, Result, Ok, Err, refl, sym, ap, subst, inl, inr}
use Rattle.std.specs.Prelude.{IfSome}
use Rattle.std.specs.declared.io.Error.{Error}
use Rattle.http_wire.specs.declared.stream.StreamEnd.{StreamEnd}
use Rattle.td_batch.specs.Laws.{stamped_rows}
use Rattle.td_batch.specs.Runs.{IsBatchDone, IsRunOf, outcomes_of}
use Rattle.td_batch.specs.declared.running.BatchRun.{BatchRun}
use Rattle.td_batch.proofs.AgainAtDesk.{clean_back}
use Rattle.td_commands.specs.declared.command.Command.{Command}
use Rattle.td_commands.specs.declared.command.Stamped.{Stamped}
use Rattle.td_commands.specs.declared.said.Said.{Said}
use Rattle.td_desk.proofs.Turns.{run_on}
use Rattle.td_model.specs.Content.{Content, IsSound, account_in, rows_of}
use Rattle.td_desk.specs.Runs.{IsTied}
use Rattle.td_desk.specs.View.{DeskView}
use Rattle.td_desk.specs.declared.running.Outcome.{Outcome}
use Rattle.td_jobs.specs.Desks.{BeginAlike, IsReady, fresh_books}
use Rattle.td_jobs.specs.Jobs.{JobState, KnownJob}
use Rattle.td_jobs.specs.Listening.{HasServed, HasServedAt, PrintingState, ServerState, ServesAs, ServesThere, ServingState, listening_from}
use Rattle.td_jobs.specs.Piped.{IsPiped, IsPipedAt}
use Rattle.td_jobs.specs.declared.serving.ServingEnd.{ServingEnd}
use Rattle.td_jobs.specs.declared.serving.ServingEnd.TheVariants.{Done, NoMemory, Socket, Write}
use Rattle.td_journal_jobs.proofs.Followed.{followed_ready}
use Rattle.td_journal_jobs.specs.Following.{DoesAfter}
use Rattle.td_journal_lines.specs.Lines.{Numbered}
use Rattle.td_machine.specs.Machine.{Around}
use Rattle.td_model.specs.Account.{HolderRows, account_with}
use Rattle.td_model.specs.Book.{Book, fresh_book}
use Rattle.td_model.specs.Sound.{AreHolderRows}
use Rattle.td_model.proofs.Kept.{found_sound}
use Rattle.td_replay.specs.Following.{AreToldAgain, RowFails}
use Rattle.td_replay.specs.Replays.{IsDoneAt, IsReplayOf, stamped_of}
use Rattle.td_replay.proofs.Rebuilding.{clean_before}
use Rattle.td_replay.specs.declared.following.FollowFault.{FollowFault}
use Rattle.td_replay.specs.declared.following.FollowFault.TheVariants.{BadRow, Misplaced, Differs, Unread, Failed}
use Rattle.td_replay.specs.declared.replaying.ReplayRun.{ReplayRun}
use Rattle.td_words.specs.declared.words.Listening.{Listening}
use Rattle.td_cli.specs.Parts.{ArePartsTold, Part, heard_of, machine_tells, rows, stream, told_of}
use Rattle.td_cli.specs.WorkOf.{part_batched, part_followed, part_piped, part_replayed, parts_after, parts_failed, parts_listened, parts_served, parts_there}
use Rattle.td_cli.specs.Worked.{AreCovered, IfClean, KeepsHeadline, Work}
use Rattle.td_cli.proofs.BatchesAlike.{no_run}
use Rattle.td_cli.proofs.Desks.{fresh_tied}
use Rattle.td_cli.proofs.Parts.{both_told, none_told, rows_told, streams_told, then_books}
use Rattle.td_cli.proofs.Runs.{one_stream}

-- The desk had sound content at first; and from any books that say what that is, the parts were told by the holders' own machines.
pub record IsWorkTold (work : Work) : Type 0 where
  pub sound : IsSound work.begun
  pub told : (books : ℕ → Book) → IsTied work.begun books → (c : Content) × ArePartsTold work.begun.country books work.parts c

-- a holder's rows are covered
covered_with : (country : List ℕ) (found : Option HolderRows) → IfSome found (AreHolderRows country) → AreCovered (account_with country found)
covered_with country None rules = tt
covered_with country (Some h) rules = rules.cover

covered_in : (c : Content) (H : ℕ) → IsSound c → AreCovered (account_in H c)
covered_in c H sound = covered_with c.country (rows_of H c) (found_sound H c sound)

-- so the work keeps the headline
pub headline : (work : Work) → IsWorkTold work → KeepsHeadline work
headline work is = record {
  private = λ books tied H. (is.told books tied).1.answers H;
  covered = λ books tied H.
      let (c, told) = is.told books tied in (
        subst AreCovered (tied.each H) (covered_in work.begun H is.sound),
        subst AreCovered (told.tied.each H) (covered_in c H told.sound),
      );
}

module _ {D : Type 0} (view : DeskView D) where
  -- what is shown of the work of a job at a desk that was ready
  abbrev pub Shows : D → D → List Part → Type 0
  Shows opened left parts = IsReady view opened → IfClean IsWorkTold view opened left parts

  -- nothing was asked
  unasked_told : (opened left : D) → left ≡ opened → Shows opened left []
  unasked_told opened left same ready clean =
      let is = ready (subst view.is_clean same clean) in record {
        sound = is.1;
        told = λ books tied. (view.content opened, none_told _ books (view.content opened) refl is.1 tied);
      }

  -- ---- streams and connections

  stream_told : {R W C : Type 0} (remaining : R → Option (List ℕ)) (contents : W → Option (List ℕ)) (ticks : C → ℤ → C → Type 0)
      (old new : JobState D R W C) (end : StreamEnd) → (piped : IsPiped view remaining contents ticks old new end)
      → Shows old.desk new.desk (stream piped.served.run.exchanges ∷ [])
  stream_told remaining contents ticks old new end piped ready clean = record {
    sound = (ready (piped.clean clean)).1;
    told = λ books tied.
        let (c, served, same) = piped.private clean books tied in (
          c,
          streams_told _ books (piped.served.run.exchanges ∷ []) c (one_stream _ books piped.served.run.exchanges c served),
        );
  }

  pub pipe_told : {R W M L Reads Writes : Type 0} (known : KnownJob R W M L Reads Writes) (at : Option ℤ) (old new : JobState D R W M) (end : StreamEnd)
      → (piped : IsPipedAt view known at old new end) → Shows old.desk new.desk (part_piped view known at old new end piped)
  pipe_told known (Some at) old new end piped = stream_told known.remaining known.contents _ _ _ end piped.1.1
  pipe_told known None old new end piped = stream_told known.remaining known.contents known.around.ticks _ _ end piped

  connections_told : {M L Reads Writes C : Type 0} (around : Around M L Reads Writes) (ticks : C → ℤ → C → Type 0) (connections : ℕ)
      (old new : ServingState L C D) (answer : Result Unit Error) → (served : HasServed view around ticks connections old new answer)
      → Shows old.desk new.desk (map (λ es. stream es) (map (λ connection. connection.exchanges) served.served.all_served))
  connections_told around ticks connections old new answer served ready clean = record {
    sound = (ready (served.clean clean)).1;
    told = λ books tied. let (c, over, same) = served.private clean books tied in (c, streams_told _ books _ c over);
  }

  served_told : {M L Reads Writes : Type 0} (around : Around M L Reads Writes) (at : Option ℤ) (connections : ℕ) (old new : ServingState L M D)
      (answer : Result Unit Error) → (served : HasServedAt view around at connections old new answer)
      → Shows old.desk new.desk (parts_served view around at connections old new answer served)
  served_told around (Some at) connections old new answer served = connections_told around _ connections _ _ answer served.1.1
  served_told around None connections old new answer served = connections_told around around.ticks connections _ _ answer served

  served_back : {M L Reads Writes : Type 0} (around : Around M L Reads Writes) (at : Option ℤ) (connections : ℕ) (old new : ServingState L M D)
      (answer : Result Unit Error) → HasServedAt view around at connections old new answer → view.is_clean new.desk → view.is_clean old.desk
  served_back around (Some at) connections old new answer served = served.1.1.clean
  served_back around None connections old new answer served = served.clean

  module _ {R W M L Reads Writes : Type 0} (known : KnownJob R W M L Reads Writes) (at : Option ℤ) (listening : Listening) where
    there_told : (end : ServingEnd) (old new : PrintingState L M D W) → (serves : ServesThere view known.contents known.around at listening end old new)
        → Shows old.serving.desk new.serving.desk (parts_there view known at listening end old new serves)
    there_told Done old new serves = served_told known.around at listening.connections _ _ _ serves.1.1
    there_told NoMemory old new serves = absurd serves
    there_told Socket old new serves = served_told known.around at listening.connections _ _ _ serves.1.1
    there_told Write old new (inl cut) = unasked_told _ _ (ap (λ (s : ServingState L M D). s.desk) cut.1)
    there_told Write old new (inr serves) = served_told known.around at listening.connections _ _ _ serves.1.1

    pub listened_told : (end : ServingEnd) (old new : ServerState D W M) → (serves : ServesAs view known.contents known.around at listening end old new)
        → Shows old.desk new.desk (parts_listened view known at listening end old new serves)
    listened_told Done old new (inl not) = absurd not
    listened_told NoMemory old new (inl not) = unasked_told _ _ (ap (λ (s : ServerState D W M). s.desk) not)
    listened_told Socket old new (inl not) = unasked_told _ _ not.1
    listened_told Write old new (inl not) = absurd not
    listened_told end old new (inr listened) =
        there_told end (listening_from listened.came listened.begun old) (listening_from listened.gone listened.ended new) listened.serves

    -- a desk that is clean in the end was so before
    there_back : (end : ServingEnd) (old new : PrintingState L M D W) → ServesThere view known.contents known.around at listening end old new
        → view.is_clean new.serving.desk → view.is_clean old.serving.desk
    there_back Done old new serves = served_back known.around at listening.connections _ _ _ serves.1.1
    there_back NoMemory old new serves = absurd serves
    there_back Socket old new serves = served_back known.around at listening.connections _ _ _ serves.1.1
    there_back Write old new (inl cut) = λ clean. subst (λ (s : ServingState L M D). view.is_clean s.desk) cut.1 clean
    there_back Write old new (inr serves) = served_back known.around at listening.connections _ _ _ serves.1.1

    pub listened_back : (end : ServingEnd) (old new : ServerState D W M) → ServesAs view known.contents known.around at listening end old new
        → view.is_clean new.desk → view.is_clean old.desk
    listened_back Done old new (inl not) = absurd not
    listened_back NoMemory old new (inl not) = λ clean. subst (λ (s : ServerState D W M). view.is_clean s.desk) not clean
    listened_back Socket old new (inl not) = λ clean. subst view.is_clean not.1 clean
    listened_back Write old new (inl not) = absurd not
    listened_back end old new (inr listened) =
        there_back end (listening_from listened.came listened.begun old) (listening_from listened.gone listened.ended new) listened.serves

  -- ---- rows

  ran_told : {line : Command → Said → List ℕ} {header : List ℕ} (at : ℤ) (commands : List Command) (r : BatchRun) (old new : D)
      → (done : IsBatchDone view line header at commands r old new)
      → Shows old new (rows (stamped_rows at commands r done.said) (outcomes_of done.said r.stopped) ∷ [])
  ran_told at commands r old new done ready clean =
      let is = ready (clean_back view at _ old new done.steps clean) in record {
        sound = is.1;
        told = λ books tied. let (c, run, same) = done.private clean is.0 is.1 books tied in (c, rows_told _ books _ _ c run);
      }

  none_ran_told : (old new : D) → new ≡ old → Shows old new (rows [] [] ∷ [])
  none_ran_told old new same ready clean =
      let is = ready (subst view.is_clean same clean) in record {
        sound = is.1;
        told = λ books tied.
            (view.content old, rows_told _ books [] [] (view.content old) (no_run _ books (view.content old) refl is.1 tied));
      }

  pub batch_told : {line : Command → Said → List ℕ} {header : List ℕ} (at : ℤ) (commands : List Command) (r : BatchRun) (old new : D)
      → (ran : IsRunOf view line header at commands r old new) → Shows old new (part_batched at commands r ran)
  batch_told at commands r old new (inl nothing) = none_ran_told old new nothing.0
  batch_told at commands r old new (inr ran) = ran_told at commands r old new ran

  pub replay_told : (numbered : List Numbered) (run : ReplayRun) (old new : D) → (replayed : IsReplayOf view numbered run old new)
      → Shows old new (part_replayed view numbered run old new replayed)
  replay_told numbered run old new (inl not) = unasked_told old new not.desk
  replay_told numbered run old new (inr done) = λ ready clean.
      let is = ready (clean_before view _ old new done.steps clean) in record {
        sound = is.1;
        told = λ books tied. let (c, ran, same) = done.private clean is.0 is.1 books tied in (c, rows_told _ books _ _ c ran);
      }

  -- ---- rows of a journal that came by the input

  -- they were followed, and the desk has what they lead to
  followed_told : (opened desk : D) (numbered : List Numbered) (told : AreToldAgain view numbered opened desk) → IsReady view opened → view.is_clean desk
      → (books : ℕ → Book) → IsTied (view.content opened) books
      → view.is_live desk × ArePartsTold (view.content opened).country books (part_followed view opened desk numbered told ∷ []) (view.content desk)
  followed_told opened desk numbered told ready clean books tied =
      let is = ready (told.clean clean) in
      let live = told.live clean is.0 in
      let (c, run, same) = told.tried.private clean is.0 is.1 books tied in
      (live, subst (ArePartsTold _ books _) (sym (same live)) (rows_told _ books _ _ c run))

  -- and then other parts came, or none
  behind_followed : (opened desk left : D) (numbered : List Numbered) (told : AreToldAgain view numbered opened desk) (parts : List Part)
      → IsReady view opened → (view.is_clean left → view.is_clean desk)
      → (view.is_clean left → (books : ℕ → Book) → IsTied (view.content desk) books → view.is_live desk → IsSound (view.content desk)
      → (c : Content) × ArePartsTold (view.content desk).country books parts c)
      → IfClean IsWorkTold view opened left (part_followed view opened desk numbered told ∷ parts)
  behind_followed opened desk left numbered told parts ready back rest clean = record {
    sound = (ready (told.clean (back clean))).1;
    told = λ books tied.
        let country = (view.content opened).country in
        let part = part_followed view opened desk numbered told in
        let (live, first) = followed_told opened desk numbered told ready (back clean) books tied in
        let (c, later) = rest clean (then_books country books (part ∷ []) parts) first.tied live first.sound in (
          c,
          both_told country books (part ∷ []) parts (view.content desk) c first
              (subst (λ (k : List ℕ). ArePartsTold k (then_books country books (part ∷ []) parts) parts c) first.country_stays later),
        );
  }

  -- one more row
  one_told : (s : Stamped) (o : Outcome) (old new : D) → IsDoneAt view s o old new → view.is_clean new → (books : ℕ → Book)
      → IsTied (view.content old) books → IsSound (view.content old)
      → (c : Content) × ArePartsTold (view.content old).country books (rows (s ∷ []) (o ∷ []) ∷ []) c
  one_told s o old new done clean books tied sound =
      let country = (view.content old).country in
      let (c, run, same) = run_on country books [] [] s (view.content old) (view.content old) (view.content new) (view.is_live old) (view.is_live new)
      (no_run country books (view.content old) refl sound tied) (λ live. refl) (done.live clean) o (done.performs clean) in
      (c, rows_told country books (s ∷ []) (o ∷ []) c run)

  failed_clean : (r : Numbered) (old new : D) (why : FollowFault) → RowFails view r old new why → view.is_clean new → view.is_clean old
  failed_clean r old new (Differs n) fails clean = fails.1.done.clean clean
  failed_clean r old new (Failed why) fails clean = fails.done.clean clean
  failed_clean r old new (BadRow n) fails clean = absurd fails
  failed_clean r old new (Misplaced n) fails clean = absurd fails
  failed_clean r old new Unread fails clean = absurd fails

  failed_told : (r : Numbered) (old new : D) (why : FollowFault) (fails : RowFails view r old new why) → view.is_clean new → (books : ℕ → Book)
      → IsTied (view.content old) books → IsSound (view.content old)
      → (c : Content) × ArePartsTold (view.content old).country books (parts_failed view r old new why fails) c
  failed_told r old new (Differs n) fails clean books tied sound = one_told (stamped_of r) _ old new fails.1.done clean books tied sound
  failed_told r old new (Failed why) fails clean books tied sound = one_told (stamped_of r) _ old new fails.done clean books tied sound
  failed_told r old new (BadRow n) fails clean books tied sound = absurd fails
  failed_told r old new (Misplaced n) fails clean books tied sound = absurd fails
  failed_told r old new Unread fails clean books tied sound = absurd fails

  nothing_behind : (desk : D) (books : ℕ → Book) → IsTied (view.content desk) books → view.is_live desk → IsSound (view.content desk)
      → (c : Content) × ArePartsTold (view.content desk).country books [] c
  nothing_behind desk books tied live sound = (view.content desk, none_told _ books (view.content desk) refl sound tied)

  pub after_told : {R W M End : Type 0} (remaining : R → Option (List ℕ)) (old new : JobState D R W M) (did : JobState D R W M → End → Type 0)
      (parts : (begun : JobState D R W M) (end : End) → did begun end → List Part)
      → ((begun : JobState D R W M) (end : End) (done : did begun end) → Shows begun.desk new.desk (parts begun end done))
      → ((begun : JobState D R W M) (end : End) → did begun end → view.is_clean new.desk → view.is_clean begun.desk)
      → (end : Result End FollowFault) (is : DoesAfter view remaining old new did end)
      → Shows old.desk new.desk (parts_after view remaining old new did parts end is)
  after_told remaining old new did parts shows back (Ok end) (begun, read, count, all, done) ready =
      behind_followed old.desk begun new.desk all.rows all.followed.done _ ready (back _ end done)
      (λ clean books tied live sound.
      let work = shows _ end done (followed_ready view remaining old.desk begun old.input read count all ready) clean in work.told books tied)
  after_told remaining old new did parts shows back (Err why) (output, machine, inl stops) ready =
      behind_followed old.desk new.desk new.desk stops.rows stops.followed.done [] ready (λ clean. clean) (λ clean. nothing_behind new.desk)
  after_told remaining old new did parts shows back (Err why) (output, machine, inr (inl stops)) ready =
      behind_followed old.desk stops.desk new.desk stops.rows stops.followed.done _ ready (failed_clean stops.row stops.desk new.desk why stops.fails)
      (λ clean books tied live sound. failed_told stops.row stops.desk new.desk why stops.fails clean books tied sound)
  after_told remaining old new did parts shows back (Err why) (output, machine, inr (inr stops)) ready =
      behind_followed old.desk new.desk new.desk stops.rows stops.followed.done [] ready (λ clean. clean) (λ clean. nothing_behind new.desk)

-- two pieces of work at desks that began with the same of H tell H alike what they hear alike
pub work_alike : (H : ℕ) (one other : Work) → KeepsHeadline one → KeepsHeadline other → BeginAlike one.begun.country H one.begun other.begun
    → heard_of one.begun.country H one.parts ≡ heard_of one.begun.country H other.parts
    → told_of one.begun.country H one.parts ≡ told_of one.begun.country H other.parts
work_alike H one other first second alike same =
    let country = one.begun.country in
    first.private (fresh_books one.begun) (fresh_tied one.begun) H
    ∙ ap (λ (book : Book). machine_tells H book (heard_of country H one.parts)) (ap fresh_book alike.2)
    ∙ ap (machine_tells H (fresh_books other.begun H)) same
    ∙ sym (subst (λ (k : List ℕ). told_of k H other.parts ≡ machine_tells H (fresh_books other.begun H) (heard_of k H other.parts)) alike.1
    (second.private (fresh_books other.begun) (fresh_tied other.begun) H))
