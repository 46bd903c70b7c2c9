-- Laws of contents, books and runs.
use Rattle.std.specs.Prelude.{◌≡◌, ◌≢◌, ℕ, ℤ, List}
use Rattle.td_base.specs.Codes.{IsCountry}
use Rattle.td_commands.specs.declared.command.Command.TheVariants.{Ie029}
use Rattle.td_commands.specs.declared.command.Stamped.{Stamped}
use Rattle.td_commands.specs.declared.said.Refusal.TheVariants.{NoGuarantee}
use Rattle.td_commands.specs.declared.said.Said.TheVariants.{Refused}
use Rattle.td_model.specs.Table.{said}
use Rattle.td_model.specs.Account.{empty_account}
use Rattle.td_model.specs.Book.{Book, fresh_book}
use Rattle.td_desk.specs.declared.running.Outcome.{Outcome}
use Rattle.td_model.specs.Content.{Content, fresh, empty_content, IsSound}
use Rattle.td_desk.specs.Runs.{Agree, failures, heard, told, IsTied, IsRun}
use Rattle.td_acts.specs.Weighing.{owner_account}

-- an empty desk is sound, and tied to empty books
abbrev pub EmptyDeskIsTied : Type 0
EmptyDeskIsTied =
    (country : List ℕ) → IsCountry country
    → IsSound (empty_content country)
    × IsTied (empty_content country) (λ H. fresh_book (empty_account country))

-- every content is tied to the books that begin with it
abbrev pub FreshBooksAreTied : Type 0
FreshBooksAreTied = (rows : Content) → IsTied rows (λ H. fresh H rows)

-- The headline. Two runs at desks of one country, from starts that are equal for H and as different as one
-- likes for all others: where the two lists agree on H, moments included, and H's commands failed at the
-- same places, H was told the same.
abbrev pub AgreeingRunsTellTheSame : Type 0
AgreeingRunsTellTheSame =
    (country : List ℕ) (H : ℕ) (books others : ℕ → Book) (list other_list : List Stamped)
    (outcomes other_outcomes : List Outcome) (end other_end : Content)
    → IsRun country books list outcomes end → IsRun country others other_list other_outcomes other_end
    → books H ≡ others H → Agree country H list other_list
    → failures country H list outcomes ≡ failures country H other_list other_outcomes
    → told country H list outcomes ≡ told country H other_list other_outcomes

-- The same where H's commands that did not fail are equal in the two, whatever commands of H's failed
-- beside them.
abbrev pub HeardAlikeIsToldTheSame : Type 0
HeardAlikeIsToldTheSame =
    (country : List ℕ) (H : ℕ) (books others : ℕ → Book) (list other_list : List Stamped)
    (outcomes other_outcomes : List Outcome) (end other_end : Content)
    → IsRun country books list outcomes end → IsRun country others other_list other_outcomes other_end
    → books H ≡ others H → heard country H list outcomes ≡ heard country H other_list other_outcomes
    → told country H list outcomes ≡ told country H other_list other_outcomes

-- Over sound rows a release for transit (IE029) is never refused because a guarantee of the movement isn't there.
abbrev pub ReleasesFindTheirGuarantees : Type 0
ReleasesFindTheirGuarantees =
    (rows : Content) (at : ℤ) (mrn : List ℕ) (limit : ℕ) → IsSound rows
    → said (owner_account rows (Ie029 mrn limit)) at (Ie029 mrn limit) ≢ Refused NoGuarantee
