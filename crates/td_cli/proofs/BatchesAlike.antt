-- What two batches over files tell one holder alike.
use Rattle.std.proofs.Common.{◌≡◌, ℕ, ℤ, false, List, [], refl, subst, inl, inr}
use Rattle.sqlite_disk.specs.declared.Disk.{Ghosts}
use Rattle.sqlite_wal.specs.Recovery.{Image}
use Rattle.td_commands.specs.declared.command.Command.{Command}
use Rattle.td_commands.specs.declared.said.Said.{Said}
use Rattle.td_model.specs.Book.{Book}
use Rattle.td_model.specs.Content.{Content, IsSound}
use Rattle.td_desk.specs.Runs.{IsRun, IsTied}
use Rattle.td_batch.specs.declared.running.BatchRun.{BatchRun}
use Rattle.td_batch.specs.Laws.{stamped_rows}
use Rattle.td_batch.specs.Runs.{IsRunOf, outcomes_of}
use Rattle.td_files.specs.Found.{FileSeen, IsClean, over_file}
use Rattle.td_cli.specs.BatchLaws.{commands_tried, outcomes_tried}
use Rattle.td_jobs.specs.Desks.{fresh_books}
use Rattle.td_cli.specs.Desks.{BeginsKept}
use Rattle.td_cli.proofs.Desks.{fresh_tied}
use Rattle.td_cli.proofs.Later.{batch_clean}
use Rattle.td_cli.proofs.Runs.{begun_country, begun_live, begun_sound}

-- where nothing was done
pub no_run : (country : List ℕ) (books : ℕ → Book) (c : Content) → c.country ≡ country → IsSound c → IsTied c books → IsRun country books [] [] c
no_run country books c same sound tied = record {
  one_each = refl;
  answers = λ H. refl;
  nobodys = tt;
  country_stays = same;
  sound = sound;
  tied = record { each = tied.each; grown = tied.grown };
}

module _ {S : Type 0} {disk : Ghosts S} where
  -- a batch is a run from the books that begin with the rows that were found
  pub from_opened : (line : Command → Said → List ℕ) (header : List ℕ) (image : Image) (country : List ℕ) (at : ℤ) (rows : List Command) (r : BatchRun)
      (opened left : FileSeen disk) → BeginsKept image country opened → IsClean left
      → (ran : IsRunOf over_file line header at rows r opened left)
      → (c : Content) × IsRun country (fresh_books (over_file.content opened)) (commands_tried at rows r ran) (outcomes_tried at rows r ran) c
  from_opened line header image country at rows r opened left begins clean (inl nothing) =
      let was = batch_clean line header at rows r opened left (inl nothing) clean in
      let content = over_file.content opened in (
        content,
        no_run country (fresh_books content) content (begun_country false image country opened begins was)
            (begun_sound false image country opened begins was) (fresh_tied content),
      )
  from_opened line header image country at rows r opened left begins clean (inr done) =
      let was = batch_clean line header at rows r opened left (inr done) clean in
      let content = over_file.content opened in
      let private = done.private clean (begun_live false image country opened begins was) (begun_sound false image country opened begins was)
      (fresh_books content) (fresh_tied content) in (
        private.0,
        subst (λ (k : List ℕ). IsRun k (fresh_books content) (stamped_rows at rows r done.said) (outcomes_of done.said r.stopped) private.0)
            (begun_country false image country opened begins was) private.1,
      )
