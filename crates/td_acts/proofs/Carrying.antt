-- What the rows of a decision do to the content.
use Rattle.std.proofs.Common.{◌≡◌, ◌≢◌, ℕ, Option, Some, None, refl, sym, ◌∙◌, ap, subst, arith}
use Rattle.td_base.specs.Days.{moment_of}
use Rattle.td_model.specs.declared.holder_row.HolderRow.{HolderRow}
use Rattle.td_model.specs.declared.change.Change.{Change}
use Rattle.td_model.specs.declared.change.Change.TheVariants as change
use Rattle.td_commands.specs.declared.command.Stamped.{Stamped}
use Rattle.td_model.specs.Account.{Account, HolderRows, ReferencesDiffer, account_with, holder_key}
use Rattle.td_model.specs.Book.{account_of}
use Rattle.td_model.specs.Changes.{account_after, row_in, rows_after, rows_or_new}
use Rattle.td_commands.specs.Commands.{owner_of, IsProper}
use Rattle.td_acts.specs.Deciding.{decision_on}
use Rattle.td_acts.specs.Laws.{FollowsOn}
use Rattle.td_model.specs.Machine.{book_after}
use Rattle.td_model.specs.Sound.{AreHolderRows}
use Rattle.td_acts.proofs.AcceptedRows.{nobody_writes}
use Rattle.td_acts.proofs.Following.{follows_on, row_after, nothing_without_row}
use Rattle.td_acts.proofs.Growing.{account_said_after}
use Rattle.td_model.specs.Content.{Content, account_in, rows_of, fresh, content_after, content_after_row, IsSound}
use Rattle.keyed_rows.specs.Rows.{put_row}
use Rattle.td_acts.specs.Weighing.{account_for, owner_account, Carries}
use Rattle.td_model.proofs.Kept.{found_sound, references_differ}
use Rattle.td_acts.proofs.Fresh.{account_fresh}
use Rattle.keyed_rows.proofs.Putting.{row_at_has, row_at-put_row_same, row_at-put_row_other, Rises-put_row, All-put_row}

-- what new content does to H's account, to all others and to the rules, where a change of H's account was to be made
pub record HasEffect (H : ℕ) (rows : Content) (c : Change) (new : Content) : Type 0 where
  pub country : new.country ≡ rows.country
  pub own : account_in H new ≡ account_after c (account_in H rows)
  pub others : (K : ℕ) → H ≢ K → account_in K new ≡ account_in K rows
  pub sound : IsSound new

-- the content after a change of H's rows
changed_is : (H : ℕ) (rows : Content) (c : Change) (row : HolderRow) → row_in c ≡ Some row → row.holder ≡ H
    → content_after c rows ≡ record rows { holders = put_row holder_key (rows_after c (rows_or_new row (rows_of H rows))) rows.holders }
changed_is H rows c row has same =
    ap (λ o. content_after_row o c rows) has
    ∙ ap (λ K. record rows { holders = put_row holder_key (rows_after c (rows_or_new row (rows_of K rows))) rows.holders }) same

-- the effect of rows that follow on H's own
effect_of_put : (H : ℕ) (rows : Content) (c : Change) (row : HolderRow) → row_in c ≡ Some row → IsSound rows
    → FollowsOn rows.country H (rows_of H rows) c (rows_after c (rows_or_new row (rows_of H rows))) → HasEffect H rows c (content_after c rows)
effect_of_put H rows c row has sound follows =
    let found = rows_of H rows in
    let w : HolderRows = rows_after c (rows_or_new row found) in
    let same : row.holder ≡ H = sym (ap (λ (r : HolderRow). r.holder) (row_after c row (rows_or_new row found) has)) ∙ follows.number in
    subst (HasEffect H rows c) (sym (changed_is H rows c row has same)) (record {
      country = refl;
      own = ap (account_with rows.country) (row_at-put_row_same holder_key H w rows.holders follows.number) ∙ follows.account;
      others = λ K other. ap (account_with rows.country) (row_at-put_row_other holder_key K w rows.holders (λ e. other (sym follows.number ∙ e)));
      sound = record {
        country = sound.country;
        order = Rises-put_row holder_key w 0 rows.holders sound.order (omega arith);
        holders = All-put_row holder_key (AreHolderRows rows.country) w rows.holders sound.holders follows.sound;
      };
    })

-- the effect of nothing
effect_of_nothing : (H : ℕ) (rows : Content) (c : Change) → c ≡ change.Nothing → IsSound rows → HasEffect H rows c (content_after c rows)
effect_of_nothing H rows c none sound = rw none (record { country = refl; own = refl; others = λ K other. refl; sound = sound })

-- what is written for a command of H does what the command does to H's book
carries_for : (H : ℕ) (rows : Content) (s : Stamped) → owner_of rows.country s.command ≡ Some H → IsSound rows → IsProper s.command
    → Carries rows s (content_after (decision_on (account_of H (fresh H rows)) s.at s.command).change rows)
carries_for H rows s own sound proper =
    let e : account_of H (fresh H rows) ≡ account_in H rows = account_fresh H rows in
    let c : Change = (decision_on (account_in H rows) s.at s.command).change in
    let effect : HasEffect H rows c (content_after c rows) = by_row (row_in c) refl in
    subst (λ (a : Account). Carries rows s (content_after (decision_on a s.at s.command).change rows)) (sym e) (record {
      country = effect.country;
      own = λ K k. let same : H ≡ K = cc in
          subst (λ n. account_in n (content_after c rows) ≡ account_of n (book_after n (fresh n rows) s)) same
          (effect.own ∙ ap (λ (a : Account). account_after (decision_on a s.at s.command).change a) (sym e) ∙ sym (account_said_after H (fresh H rows) s tt (subst ReferencesDiffer (sym e) (references_differ H rows sound)) own));
      others = λ K k. effect.others K (λ same. k (own ∙ ap (λ n. Some n) same));
      sound = effect.sound;
    })
  where
    by_row : (o : Option HolderRow) → row_in (decision_on (account_in H rows) s.at s.command).change ≡ o
        → HasEffect H rows (decision_on (account_in H rows) s.at s.command).change (content_after (decision_on (account_in H rows) s.at s.command).change rows)
    by_row None none = effect_of_nothing H rows (decision_on (account_in H rows) s.at s.command).change (nothing_without_row (decision_on (account_in H rows) s.at s.command).change none) sound
    by_row (Some row) has =
        let rules = found_sound H rows sound in
        effect_of_put H rows (decision_on (account_in H rows) s.at s.command).change row has sound
        (follows_on rows.country H (rows_of H rows) s sound.country (row_at_has holder_key H rows.holders) rules own proper row has)

-- what is written for a command does what the command does to its owner's book, and nothing else
pub carries : (rows : Content) (s : Stamped) → IsSound rows → IsProper s.command → Carries rows s (content_after (decision_on (owner_account rows s.command) s.at s.command).change rows)
carries rows s sound proper = by_owner (owner_of rows.country s.command) refl
  where
    by_owner : (o : Option ℕ) → owner_of rows.country s.command ≡ o → Carries rows s (content_after (decision_on (account_for o rows) s.at s.command).change rows)
    by_owner None none = rw (nobody_writes rows.country (moment_of s.at) s.command none) (record { country = refl; own = λ H own. cc; others = λ H other. refl; sound = sound })
    by_owner (Some H) own = carries_for H rows s own sound proper
