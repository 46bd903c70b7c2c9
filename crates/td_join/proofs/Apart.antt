-- The holders of one content, looked up in another one after another in ascending order of their numbers.
use Rattle.std.proofs.Common.{◌≡◌, ◌∙◌, ◌+◌, ◌<◌, ◌≤◌, ◌⊎◌, ℕ, Bool, true, false, List, [], ◌∷◌, Option, Some, None, IsSome, refl, sym, ap, subst, arith, inl, inr}
use Rattle.std.specs.Prelude.{IfSome, filter, if◌then◌else◌, is_some}
use Rattle.std.specs.List.{AllByRecursion}
use Rattle.std.specs.Option.{option_map}
use Rattle.std.proofs.lemmas.Bool.{cases_lt}
use Rattle.std.proofs.lemmas.Bool.Decides.{nat_tests}
use Rattle.sqlite_trees.proofs.ListLemmas.{all_both, all_weaker}
use Rattle.keyed_rows.proofs.Putting.{All-row_at, row_at_has}
use Rattle.td_model.specs.declared.holder_row.HolderRow.{HolderRow}
use Rattle.td_model.specs.Account.{HolderRows, holder_key}
use Rattle.td_model.specs.Sound.{AreHolderRows}
use Rattle.td_model.specs.Content.{Content, IsSound, rows_of}
use Rattle.td_extract.specs.Between.{content_between, is_between}
use Rattle.td_extract.specs.Extracted.{HasLeastOf}
use Rattle.td_join.specs.Joined.{AreApart, IsFirstOfBoth}
use Rattle.td_join.specs.Laws.{PartsAreApart}

-- of the first content's holders with numbers up to that one none stands in the second
abbrev pub AreApartUpTo : ℕ → Content → Content → Type 0
AreApartUpTo number c d = AllByRecursion (λ h. holder_key h ≤ number → rows_of (holder_key h) d ≡ None) c.holders

-- what holds of each holder holds of one who is there
of_one : (P : ℕ → Type 0) (c : Content) → AllByRecursion (λ h. P (holder_key h)) c.holders → (H : ℕ) → IsSome (rows_of H c) → P H
of_one P c all H some = by_rows (rows_of H c) some (row_at_has holder_key H c.holders) (All-row_at holder_key (λ h. P (holder_key h)) H c.holders all)
  where
    by_rows : (o : Option HolderRows) → IsSome o → IfSome o (λ h. holder_key h ≡ H) → IfSome o (λ h. P (holder_key h)) → P H
    by_rows None some has is = absurd (let e = some in cc)
    by_rows (Some h) some has is = subst P has is

-- who is there is there with rows
pub row_there : (o : Option HolderRows) → is_some (option_map (λ (h : HolderRows). h.row) o) ≡ is_some o
row_there None = refl
row_there (Some h) = refl

pub none_there : (o : Option HolderRows) → is_some o ≡ false → o ≡ None
none_there None none = refl
none_there (Some h) none = absurd (let e = none in cc)

not_both : (o : Option HolderRows) → o ≡ None → IsSome o → ⊥
not_both None none some = let e = some in cc
not_both (Some h) none some = cc

module _ (c d : Content) where
  -- no number is below the first that a holder may have
  pub apart_at_first : IsSound c → AreApartUpTo 0 c d
  apart_at_first sound =
      all_weaker (AreHolderRows c.country) (λ h. holder_key h ≤ 0 → rows_of (holder_key h) d ≡ None) (λ h is low. absurd (omega (arith, is.row.number.0, low))) c.holders sound.holders

  -- the next holder doesn't stand there either
  pub apart_further : (number last : ℕ) (row : HolderRow) → AreApartUpTo number c d → HasLeastOf number last c (Some row)
      → rows_of row.holder d ≡ None → AreApartUpTo row.holder c d
  apart_further number last row apart next none =
      all_both (λ h. holder_key h ≤ number → rows_of (holder_key h) d ≡ None) (λ h. number < holder_key h → row.holder ≤ holder_key h) (λ h. holder_key h ≤ row.holder → rows_of (holder_key h) d ≡ None)
      (λ h before behind low. by_order (holder_key h) before behind low (cases_lt number (holder_key h))) c.holders apart next.1
    where
      by_order : (n : ℕ) → (n ≤ number → rows_of n d ≡ None) → (number < n → row.holder ≤ n) → n ≤ row.holder → (number < n) ⊎ (n ≤ number) → rows_of n d ≡ None
      by_order n before behind low (inr up) = before up
      by_order n before behind low (inl above) = let same : row.holder ≡ n = omega (arith, behind above, low) in subst (λ k. rows_of k d ≡ None) same none

  -- or is the first who does
  pub first_of_both : (number last : ℕ) (row : HolderRow) → AreApartUpTo number c d → HasLeastOf number last c (Some row)
      → IsSome (rows_of row.holder d) → IsFirstOfBoth c d row.holder
  first_of_both number last row apart next some = record {
    first = sym (row_there (rows_of row.holder c)) ∙ ap is_some next.0;
    second = some;
    least = λ K there also_there.
        by_order K also_there (of_one (λ n. n ≤ number → rows_of n d ≡ None) c apart K there) (of_one (λ n. number < n → row.holder ≤ n) c next.1 K there) (cases_lt number K);
  }
    where
      by_order : (n : ℕ) → IsSome (rows_of n d) → (n ≤ number → rows_of n d ≡ None) → (number < n → row.holder ≤ n) → (number < n) ⊎ (n ≤ number) → row.holder ≤ n
      by_order n also_there before behind (inr up) = absurd (not_both (rows_of n d) (before up) also_there)
      by_order n also_there before behind (inl above) = behind above

  -- where no holder is left, none stands in both
  pub apart_at_last : IsSound c → (number : ℕ) → AreApartUpTo number c d → HasLeastOf number 999999 c None → AreApart c d
  apart_at_last sound number apart left H there =
      by_order H (of_one (λ n. n ≤ number → rows_of n d ≡ None) c apart H there) (of_one (λ n. number < n → 999999 < n) c left H there)
      (of_one (λ n. n ≤ 999999) c (all_weaker (AreHolderRows c.country) (λ h. holder_key h ≤ 999999) (λ h is. is.row.number.1) c.holders sound.holders) H there)
      (cases_lt number H)
    where
      by_order : (n : ℕ) → (n ≤ number → rows_of n d ≡ None) → (number < n → 999999 < n) → n ≤ 999999 → (number < n) ⊎ (n ≤ number) → rows_of n d ≡ None
      by_order n before behind most (inr up) = before up
      by_order n before behind most (inl above) = absurd (omega (arith, behind above, most))

-- those that pass a test pass it
all_pass : (p : ℕ → Bool) (rows : List HolderRows) → AllByRecursion (λ h. p (holder_key h) ≡ true) (filter (λ h. p (holder_key h)) rows)
all_pass p [] = tt
all_pass p (h ∷ rows) = by_test (p (holder_key h)) refl (all_pass p rows)
  where
    by_test : (b : Bool) → p (holder_key h) ≡ b → AllByRecursion (λ h. p (holder_key h) ≡ true) (filter (λ h. p (holder_key h)) rows)
        → AllByRecursion (λ h. p (holder_key h) ≡ true) (if b then h ∷ filter (λ h. p (holder_key h)) rows else filter (λ h. p (holder_key h)) rows)
    by_test true is later = (is, later)
    by_test false is later = later

-- so no holder is in two ranges that have no number in common
module _ (first last low high : ℕ) (other : (n : ℕ) → is_between first last n ≡ true → is_between low high n ≡ true → ⊥) (c : Content) where
  ranges_apart : AreApart (content_between first last c) (content_between low high c)
  ranges_apart H there = by_rows (rows_of H (content_between low high c)) refl
    where
      by_rows : (o : Option HolderRows) → rows_of H (content_between low high c) ≡ o → rows_of H (content_between low high c) ≡ None
      by_rows None is = is
      by_rows (Some h) is =
          absurd (other H
          (of_one (λ n. is_between first last n ≡ true) (content_between first last c) (all_pass (is_between first last) c.holders) H there)
          (of_one (λ n. is_between low high n ≡ true) (content_between low high c) (all_pass (is_between low high) c.holders) H (ap is_some is)))

below_or_above : (first middle last n : ℕ) → is_between first middle n ≡ true → is_between (middle + 1) last n ≡ true → ⊥
below_or_above first middle last n lower upper = absurd (grind (arith, nat_tests, lower, upper))

pub parts_are_apart : PartsAreApart
parts_are_apart first middle last c = (
  ranges_apart first middle (middle + 1) last (below_or_above first middle last) c,
  ranges_apart (middle + 1) last first middle (λ n upper lower. below_or_above first middle last n lower upper) c,
)
