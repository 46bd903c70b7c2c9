-- Two contents in one: each account, the rules, and the parts of a whole.
use Rattle.std.proofs.Common.{◌≡◌, ◌∙◌, ◌+◌, ◌≤◌, ℕ, true, List, Option, Some, None, refl, sym, ap, subst, arith}
use Rattle.std.specs.Prelude.{◌||◌, if◌then◌else◌, is_some}
use Rattle.std.specs.List.{AllByRecursion}
use Rattle.std.proofs.lemmas.Bool.Decides.{nat_tests}
use Rattle.sqlite_trees.proofs.ListLemmas.{all_weaker, filter_all}
use Rattle.td_base.specs.Codes.{IsHolderNumber}
use Rattle.td_model.specs.Account.{HolderRows, account_with, holder_key}
use Rattle.td_model.specs.Sound.{AreHolderRows}
use Rattle.td_model.specs.Content.{Content, IsSound, account_in, rows_of}
use Rattle.td_extract.specs.Between.{content_between, is_between}
use Rattle.td_join.specs.Laws.{AccountsAreOfEither, PartsJoinToTheWhole, SoundContentsJoin, SplitsJoinBack}
use Rattle.td_join.proofs.Put.{all_put, found_put, or_those, put_together, rises_put}

pub accounts_are_of_either : AccountsAreOfEither
accounts_are_of_either c d country H = ap (account_with d.country) (found_put H c.holders d.holders) ∙ by_found (rows_of H c)
  where
    by_found : (o : Option HolderRows) → account_with d.country (or_those o (rows_of H d)) ≡ (if is_some o then account_with c.country o else account_in H d)
    by_found (Some h) = ap (λ k. account_with k (Some h)) (sym country)
    by_found None = refl

pub sound_contents_join : SoundContentsJoin
sound_contents_join c d country sound other_sound = record {
  country = other_sound.country;
  order = rises_put c.holders d.holders other_sound.order;
  holders = all_put (AreHolderRows d.country) c.holders d.holders (subst (λ k. AllByRecursion (AreHolderRows k) c.holders) country sound.holders) other_sound.holders;
}

lower_or_upper : (first middle last n : ℕ) → first ≤ middle + 1 → middle ≤ last
    → (is_between first middle n || is_between (middle + 1) last n) ≡ is_between first last n
lower_or_upper first middle last n begins ends = grind (arith, nat_tests, begins, ends)

upper_or_lower : (first middle last n : ℕ) → first ≤ middle + 1 → middle ≤ last
    → (is_between (middle + 1) last n || is_between first middle n) ≡ is_between first last n
upper_or_lower first middle last n begins ends = grind (arith, nat_tests, begins, ends)

-- a content of that country with these rows
abbrev with_holders : List ℕ → List HolderRows → Content
with_holders country holders = record { country = country; holders = holders }

pub parts_join_to_the_whole : PartsJoinToTheWhole
parts_join_to_the_whole first middle last c sound begins ends = (
  ap (with_holders c.country)
      (put_together (is_between first middle) (is_between (middle + 1) last) (is_between first last)
      (λ n. lower_or_upper first middle last n begins ends) 0 c.holders sound.order),
  ap (with_holders c.country)
      (put_together (is_between (middle + 1) last) (is_between first middle) (is_between first last)
      (λ n. upper_or_lower first middle last n begins ends) 0 c.holders sound.order),
)

-- each holder has a number that a holder may have
number_between : (n : ℕ) → IsHolderNumber n → is_between 1 999999 n ≡ true
number_between n is = grind (arith, nat_tests, is)

pub numbers : (c : Content) → IsSound c → AllByRecursion (λ h. is_between 1 999999 (holder_key h) ≡ true) c.holders
numbers c sound =
    all_weaker (AreHolderRows c.country) (λ h. is_between 1 999999 (holder_key h) ≡ true) (λ h is. number_between (holder_key h) is.row.number) c.holders sound.holders

all_between : (c : Content) → IsSound c → content_between 1 999999 c ≡ c
all_between c sound = ap (with_holders c.country) (filter_all (λ h. is_between 1 999999 (holder_key h)) c.holders (numbers c sound))

pub splits_join_back : SplitsJoinBack
splits_join_back middle c sound ends =
    let parts = parts_join_to_the_whole 1 middle 999999 c sound (omega arith) ends in (parts.0 ∙ all_between c sound, parts.1 ∙ all_between c sound)
