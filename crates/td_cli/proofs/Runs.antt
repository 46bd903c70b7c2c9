-- Runs over a file are a list of streams.
use Rattle.std.proofs.Common.{◌≡◌, ℕ, Bool, true, false, List, [], ◌∷◌, ◌++◌, ap, subst, sym}
use Rattle.std.specs.Prelude.{IsTrue}
use Rattle.sqlite_disk.specs.declared.Disk.{Ghosts}
use Rattle.sqlite_wal.specs.Recovery.{Image}
use Rattle.sqlite.specs.Files.{file_state}
use Rattle.td_model.specs.Book.{Book}
use Rattle.td_model.specs.Content.{Content, IsSound}
use Rattle.td_desk.specs.Runs.{IsTied}
use Rattle.td_desk.specs.View.{IsSettled}
use Rattle.http_wire.specs.Stream.{Exchange}
use Rattle.td_http.specs.Private.{IsServedOver, books_over}
use Rattle.td_http.specs.Serving.{IsServed}
use Rattle.td_http.proofs.Kept.{Keeps, keeps_first}
use Rattle.td_http.proofs.Private.{served_both, served_nothing, served_over}
use Rattle.td_files.specs.Found.{FileSeen, IsClean, content_in, over_file}
use Rattle.td_cli.specs.Desks.{BeginsIn}
use Rattle.td_cli.specs.Runs.{GoesOnFrom, IsRun}

-- one stream
pub one_stream : (country : List ℕ) (books : ℕ → Book) (es : List Exchange) (c : Content) → IsServed country books 0 es c → IsServedOver country books (es ∷ []) c
one_stream country books es c served =
    served_over country books es [] c c served (served_nothing country _ c served.country_stays served.sound served.tied)

module _ {S : Type 0} {disk : Ghosts S} where
  -- a desk that a job began with
  pub begun_live : (is_new : Bool) (image : Image) (country : List ℕ) (s : FileSeen disk) → BeginsIn is_new image country s → IsClean s → IsTrue (file_state s).is_open
  begun_live false image country s begins clean = (begins clean).live
  begun_live true image country s begins clean = (begins clean).live

  pub begun_country : (is_new : Bool) (image : Image) (country : List ℕ) (s : FileSeen disk) → BeginsIn is_new image country s → IsClean s
      → (over_file.content s).country ≡ country
  begun_country false image country s begins clean = (begins clean).country_is
  begun_country true image country s begins clean = ap (λ (c : Content). c.country) (begins clean).empty

  pub begun_sound : (is_new : Bool) (image : Image) (country : List ℕ) (s : FileSeen disk) → BeginsIn is_new image country s → IsClean s
      → IsSound (over_file.content s)
  begun_sound false image country s begins clean = (begins clean).holds.trees.sound
  begun_sound true image country s begins clean = (begins clean).holds.trees.sound

  begun_settled : (is_new : Bool) (image : Image) (country : List ℕ) (s : FileSeen disk) → BeginsIn is_new image country s → IsClean s → IsSettled over_file s
  begun_settled false image country s begins clean = λ live. (begins clean).leaves
  begun_settled true image country s begins clean = λ live. (begins clean).leaves

  -- what a crash leaves of it
  pub begun_keeps : (is_new : Bool) (image : Image) (country : List ℕ) (books : ℕ → Book) (s : FileSeen disk) → BeginsIn is_new image country s → IsClean s
      → IsTied (over_file.content s) books → Keeps over_file country (λ s. ⊥) books s
  begun_keeps is_new image country books s begins clean tied =
      keeps_first over_file country books s (begun_live is_new image country s begins clean) (begun_country is_new image country s begins clean)
      (begun_sound is_new image country s begins clean) tied (begun_settled is_new image country s begins clean)

  -- a run that was served from what a desk began with
  pub run_of : (is_new : Bool) (image : Image) (country : List ℕ) (opened left : FileSeen disk) (streams : List (List Exchange)) → BeginsIn is_new image country opened
      → IsClean opened
      → ((books : ℕ → Book) → IsTied (over_file.content opened) books → (c : Content) × IsServedOver (over_file.content opened).country books streams c × (over_file.content left ≡ c))
      → IsRun country opened streams left
  run_of is_new image country opened left streams begins clean private = record {
    live = begun_live is_new image country opened begins clean;
    country_is = begun_country is_new image country opened begins clean;
    sound = begun_sound is_new image country opened begins clean;
    private = λ books tied.
        let served = private books tied in
        subst (λ (c : List ℕ). IsServedOver c books streams (over_file.content left)) (begun_country is_new image country opened begins clean)
        (subst (IsServedOver (over_file.content opened).country books streams) (sym served.2) served.1);
  }

  -- the next run found what this one left
  pub found_left : (country : List ℕ) (left next : FileSeen disk) → GoesOnFrom country left next → over_file.content next ≡ over_file.content left
  found_left country left next goes = ap content_in ((goes.begins goes.clean).found.holds (file_state left).now.trees goes.holds)

  -- two runs are one
  pub runs_joined : (country : List ℕ) (opened between next left : FileSeen disk) (streams others : List (List Exchange)) → IsRun country opened streams between
      → GoesOnFrom country between next → IsRun country next others left → IsRun country opened (streams ++ others) left
  runs_joined country opened between next left streams others first goes second = record {
    live = first.live;
    country_is = first.country_is;
    sound = first.sound;
    private = λ books tied.
        let served = first.private books tied in
        served_both country books streams others (over_file.content between) (over_file.content left) served
        (second.private (books_over country books streams)
        (subst (λ (c : Content). IsTied c (books_over country books streams)) (sym (found_left country between next goes)) served.tied));
  }
