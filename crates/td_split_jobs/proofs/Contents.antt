-- Contents of desks that hold the same rows of each holder as one desk.
use Rattle.std.proofs.Common.{◌≡◌, ℕ, ◌<◌, List, [], Option, Some, None, refl, sym, ◌∙◌, ap, ap₂}
use Rattle.std.specs.Option.{option_map}
use Rattle.td_commands.specs.declared.command.Stamped.{Stamped}
use Rattle.td_model.specs.declared.holder_row.HolderRow.{HolderRow}
use Rattle.td_model.specs.Account.{Account, HolderRows, account_with}
use Rattle.td_model.specs.Book.{Book, account_of, fresh_book}
use Rattle.td_model.specs.Machine.{machine_book}
use Rattle.td_desk.specs.declared.running.Outcome.{Outcome}
use Rattle.td_model.specs.Content.{Content, account_in, fresh, rows_of, IsSound}
use Rattle.td_desk.specs.Runs.{heard, told, IsRun, IsTied}
use Rattle.td_desk.proofs.Agreeing.{told_alike}
use Rattle.td_acts.proofs.Fresh.{account_fresh}
use Rattle.td_split.specs.Laws.{UnionIsOneContent}
use Rattle.td_split.specs.Union.{union}

-- a content is tied to the books that begin with it
pub fresh_tied : (c : Content) → IsTied c (λ H. fresh H c)
fresh_tied c = record { each = λ H. sym (account_fresh H c); grown = λ H. tt }

-- contents with the same rows of H begin with the same book of H
pub same_fresh : (H : ℕ) (a b : Content) → a.country ≡ b.country → rows_of H a ≡ rows_of H b → fresh H a ≡ fresh H b
same_fresh H a b country rows = ap fresh_book (ap₂ account_with country rows)

-- the rows that an account tells
rows_told : Account → Option HolderRows
rows_told a = option_map (λ (row : HolderRow). record { row = row; guarantees = a.guarantees; movements = a.movements }) a.holder

rows_of_account : (country : List ℕ) (o : Option HolderRows) → rows_told (account_with country o) ≡ o
unfolding rows_told
rows_of_account country None = refl
rows_of_account country (Some h) = refl

-- contents that have one account of H have the same rows of H
pub rows_by_account : (H : ℕ) (one other : Content) → account_in H one ≡ account_in H other → rows_of H one ≡ rows_of H other
rows_by_account H one other same =
    sym (rows_of_account one.country (rows_of H one)) ∙ ap rows_told same ∙ rows_of_account other.country (rows_of H other)

-- runs in which H was heard alike, from one book of H, tell H the same and come to the same rows of H
pub runs_alike : (c : List ℕ) (H : ℕ) (books others : ℕ → Book) (list other_list : List Stamped) (outcomes other_outcomes : List Outcome) (end other_end : Content)
    → IsRun c books list outcomes end → IsRun c others other_list other_outcomes other_end → books H ≡ others H
    → heard c H list outcomes ≡ heard c H other_list other_outcomes
    → (told c H list outcomes ≡ told c H other_list other_outcomes) × (rows_of H end ≡ rows_of H other_end)
runs_alike c H books others list other_list outcomes other_outcomes end other_end one own book same = (
  told_alike c H books others list other_list outcomes other_outcomes end other_end one own book same,
  rows_by_account H end other_end
      (one.tied.each H
      ∙ ap₂ (λ (b : Book) (l : List Stamped). account_of H (machine_book H b l)) book same
      ∙ sym (own.tied.each H)),
)

-- no command leaves a sound content as it is
no_commands : (country : List ℕ) (c : Content) → c.country ≡ country → IsSound c → IsRun country (λ H. fresh H c) [] [] c
no_commands country c here sound = record {
  one_each = refl;
  answers = λ H. refl;
  nobodys = tt;
  country_stays = here;
  sound = sound;
  tied = record { each = λ H. sym (account_fresh H c); grown = λ H. tt };
}

-- a sound content is the union of what desks hold of their own holders, where each holds of these what it does
pub union_is_content : UnionIsOneContent → (country : List ℕ) (f : ℕ → ℕ) (desks : ℕ) (c : Content) (ends : ℕ → Content) → c.country ≡ country → IsSound c
    → ((H : ℕ) → f H < desks) → ((i : ℕ) → i < desks → ((ends i).country ≡ country) × IsSound (ends i)) → ((H : ℕ) → rows_of H (ends (f H)) ≡ rows_of H c)
    → c ≡ record { country = country; holders = union f desks ends }
union_is_content law country f desks c ends here sound placed theirs same =
    law (record { country = country; home = f; count = desks }) [] (record { books = λ H. fresh H c; outcomes = []; end = c })
    (λ i. record { books = λ H. fresh H (ends i); outcomes = []; end = ends i })
    (record {
      placed = placed;
      sent_to = tt;
      one = no_commands country c here sound;
      many = λ i below. no_commands country (ends i) (theirs i below).0 (theirs i below).1;
      begun = λ H. same_fresh H (ends (f H)) c ((theirs (f H) (placed H)).0 ∙ sym here) (same H);
    })
    (λ H. refl)
