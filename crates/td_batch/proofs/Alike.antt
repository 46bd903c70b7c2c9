-- Two batches that agree on a holder.
use Rattle.std.proofs.Common.{◌≡◌, ℕ, ℤ, List, ap, subst, sym}
use Rattle.td_commands.specs.declared.command.Command.{Command}
use Rattle.td_commands.specs.declared.said.Said.{Said}
use Rattle.td_model.specs.Book.{fresh_book}
use Rattle.td_model.specs.Content.{Content, fresh, IsSound}
use Rattle.td_desk.specs.Runs.{IsRun, IsTied}
use Rattle.td_desk.specs.View.{DeskView}
use Rattle.td_desk.proofs.Agreeing.{heard_alike}
use Rattle.td_desk.proofs.Agreeing as runs
use Rattle.td_acts.proofs.Fresh.{account_fresh}
use Rattle.td_batch.specs.declared.running.BatchRun.{BatchRun}
use Rattle.td_batch.specs.Laws.{AgreeingBatchesTellTheSame, stamped_rows}
use Rattle.td_batch.specs.Runs.{IsBatchDone, outcomes_of}

-- a content is tied to the books that begin with it
fresh_tied : (c : Content) → IsTied c (λ H. fresh H c)
fresh_tied c = record { each = λ H. sym (account_fresh H c); grown = λ H. tt }

-- a batch is a run from the books that begin with the rows that were found
from_found : {D : Type 0} (view : DeskView D) (line : Command → Said → List ℕ) (header : List ℕ) (at : ℤ)
    (rows : List Command) (r : BatchRun) (old new : D) (country : List ℕ) → (one : IsBatchDone view line header at rows r old new)
    → view.is_clean new → view.is_live old → IsSound (view.content old) → (view.content old).country ≡ country
    → (c : Content) × IsRun country (λ H. fresh H (view.content old)) (stamped_rows at rows r one.said) (outcomes_of one.said r.stopped) c
from_found view line header at rows r old new country one clean live sound here =
    let private = one.private clean live sound (λ H. fresh H (view.content old)) (fresh_tied (view.content old)) in
    (private.0, subst (λ k. IsRun k (λ H. fresh H (view.content old)) (stamped_rows at rows r one.said) (outcomes_of one.said r.stopped) private.0) here private.1)

pub told_alike : {D E : Type 0} (view : DeskView D) (other_view : DeskView E)
    → AgreeingBatchesTellTheSame view other_view
told_alike view other_view line other_line header other_header at other_at rows other_rows r other old new other_old other_new country H
    one two clean live sound other_clean other_live other_sound here there equal agree failed =
    let first = from_found view line header at rows r old new country one clean live sound here in
    let second = from_found other_view other_line other_header other_at other_rows other other_old other_new country two other_clean other_live other_sound there in
    let list = stamped_rows at rows r one.said in
    let other_list = stamped_rows other_at other_rows other two.said in
    let outcomes = outcomes_of one.said r.stopped in
    let other_outcomes = outcomes_of two.said other.stopped in
    runs.told_alike country H (λ G. fresh G (view.content old)) (λ G. fresh G (other_view.content other_old)) list other_list outcomes other_outcomes
    first.0 second.0 first.1 second.1 (ap fresh_book equal)
    (heard_alike country H list other_list outcomes other_outcomes first.1.one_each second.1.one_each agree failed)
