-- Desks at which jobs are done, and the clocks of jobs.
use Rattle.std.specs.Prelude.{◌≡◌, ◌≢◌, ℕ, ℤ, List, Option, None, Some}
use Rattle.td_model.specs.Book.{Book}
use Rattle.td_model.specs.Content.{Content, account_in, empty_content, fresh, IsSound}
use Rattle.td_desk.specs.Plain.{plain_content}
use Rattle.td_desk.specs.View.{DeskView}
use Rattle.td_desk.specs.declared.fault.Fault.TheVariants.{Store}
use Rattle.td_desk.specs.declared.plain.PlainDesk.{PlainDesk}
use Rattle.td_machine.specs.declared.clock.FixedClock.{FixedClock}

-- a desk in memory is seen by its rows; it is always clean and live, and a crash leaves nothing of it
abbrev pub in_memory : DeskView PlainDesk
in_memory = record {
  content = plain_content;
  is_clean = λ d. Unit {0};
  is_live = λ d. Unit {0};
  has_store = ⊥;
  may_leave = λ d x. ⊥;
  recovers = λ d. Unit {0};
  weighed = λ d s why e. why ≢ Some Store;
  carried = λ d why e. why ≢ Some Store;
}

-- each holder's book is fresh: it opens with what the content has of the holder
abbrev pub fresh_books : Content → ℕ → Book
fresh_books c H = fresh H c

-- what a job's desk in memory begins with: it is empty
abbrev pub BeginsEmpty : List ℕ → PlainDesk → Type 0
BeginsEmpty country d = plain_content d ≡ empty_content country

-- a desk that can serve: as far as it is clean no fault has shut it, and its content is sound
abbrev pub IsReady : {D : Type 0} → DeskView D → D → Type 0
IsReady view d = view.is_clean d → view.is_live d × IsSound (view.content d)

-- two desks of one country that have the same of H
abbrev pub BeginAlike : List ℕ → ℕ → Content → Content → Type 0
BeginAlike country H one other =
    (one.country ≡ country) × (other.country ≡ country) × (account_in H one ≡ account_in H other)

-- The moment of a job that asks once: the one that is given, or else the answer of the machine's clock.
abbrev pub IsMomentBy : {M : Type 0} → (M → ℤ → M → Type 0) → Option ℤ → M → ℤ → M → Type 0
IsMomentBy ticks (Some at) old now new = (now ≡ at) × (new ≡ old)
IsMomentBy ticks None old now new = ticks old now new

-- a clock that stands at a moment
abbrev pub is_fixed_at : FixedClock → ℤ → FixedClock → Type 0
is_fixed_at old at new = (at ≡ old.at) × (new ≡ old)

-- What a job does that asks at each request does so by this clock: one that stands at the moment that is given, beside the machine,
-- which stays as it is; or else the machine's own.
abbrev pub ByClock : {M : Type 0} → (M → ℤ → M → Type 0) → Option ℤ → M → M
    → ((C : Type 0) → (C → ℤ → C → Type 0) → C → C → Type 0) → Type 0
ByClock ticks (Some at) old new did =
    (new ≡ old) × ((left : FixedClock) × did FixedClock is_fixed_at (record { at = at }) left)
ByClock {M} ticks None old new did = did M ticks old new
