use Rattle.std.proofs.Common.{◌≡◌, ◌≢◌, ℕ, ◌≤◌, length, take, vec_len}
use Rattle.std.specs.Prelude.{vec_capacity, All}
use Rattle.td_model.specs.Book.{Book}
use Rattle.td_desk.specs.declared.fault.Fault.TheVariants as fault
use Rattle.td_desk.specs.declared.running.Outcome.TheVariants as outcome
use Rattle.td_model.specs.Content.{Content, IsSound}
use Rattle.td_desk.specs.Runs.{AreOutcomesOf, IsTied, IsRun}
use Rattle.td_desk.proofs.running.run.Given as goal

abbrev pub invariant-loop-stamped : goal.invariant-loop-stamped
invariant-loop-stamped g l =
    let is_clean = g.D.Desk.seen.is_clean in
    let is_live = g.D.Desk.seen.is_live in
    let content = g.D.Desk.seen.content in
    record {
      room : length l.list ≤ vec_capacity l.outcomes;
      one_each : vec_len l.outcomes ≡ l.stamped-index;
      stored : All (λ o. o ≡ outcome.Failed fault.Store → g.D.Desk.seen.has_store) l.outcomes.items;
      calls : AreOutcomesOf g.D.Desk.seen l.fn.desk (take l.stamped-index l.list) l.outcomes.items l.desk;
      stays : is_clean l.desk → is_live l.fn.desk → All (λ o. o ≢ outcome.Failed fault.Store) l.outcomes.items → is_live l.desk;
      clean : is_clean l.desk → is_clean l.fn.desk;
      live : is_clean l.desk → is_live l.desk → is_live l.fn.desk;
      runs : is_clean l.desk → is_live l.fn.desk → IsSound (content l.fn.desk) → (books : ℕ → Book) → IsTied (content l.fn.desk) books →
          (c : Content) × IsRun (content l.fn.desk).country books (take l.stamped-index l.list) l.outcomes.items c × (is_live l.desk → content l.desk ≡ c);
    }
