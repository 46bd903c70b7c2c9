-- The holders of a range among all.
use Rattle.std.proofs.Common.{◌≡◌, ◌≢◌, ◌⊎◌, ◌∙◌, ℕ, Bool, true, false, List, [], ◌∷◌, Option, Some, None, refl, sym, ap, arith, inl, inr}
use Rattle.std.specs.Prelude.{if◌then◌else◌, filter}
use Rattle.std.proofs.lemmas.Bool.{cases_eq}
use Rattle.std.proofs.lemmas.Bool.Decides.{nat_tests}
use Rattle.sqlite_trees.proofs.ListLemmas.{all-filter}
use Rattle.keyed_rows.specs.Rows.{row_at}
use Rattle.td_model.specs.Account.{HolderRows, account_with, empty_account, holder_key}
use Rattle.td_model.specs.Sound.{AreHolderRows}
use Rattle.td_table_model.proofs.Orders.{rises-filter}
use Rattle.td_extract.specs.Between.{is_between}
use Rattle.td_extract.specs.Laws.{AccountsAreOfTheRange, SoundPartsAreSound}

-- what is found at the head, and behind it
at_head : (h : HolderRows) (rows : List HolderRows) → row_at holder_key (holder_key h) (h ∷ rows) ≡ Some h
at_head h rows = grind (arith, nat_tests)

behind : (k : ℕ) (h : HolderRows) (rows : List HolderRows) → holder_key h ≢ k → row_at holder_key k (h ∷ rows) ≡ row_at holder_key k rows
behind k h rows other = grind (arith, nat_tests, other)

module _ (q : ℕ → Bool) (H : ℕ) where
  one_more : (h : HolderRows) (rest rows : List HolderRows) (b e : Bool) → q (holder_key h) ≡ b → q H ≡ e
      → row_at holder_key H rest ≡ (if e then row_at holder_key H rows else None) → (holder_key h ≡ H) ⊎ (holder_key h ≡ H → ⊥)
      → row_at holder_key H (if b then h ∷ rest else rest) ≡ (if e then row_at holder_key H (h ∷ rows) else None)
  one_more h rest rows true true is here found (inl mine) =
      ap (λ k. row_at holder_key k (h ∷ rest)) (sym mine) ∙ at_head h rest ∙ sym (at_head h rows) ∙ ap (λ k. row_at holder_key k (h ∷ rows)) mine
  one_more h rest rows true false is here found (inl mine) = absurd (let same : true ≡ false = sym is ∙ ap q mine ∙ here in cc)
  one_more h rest rows false true is here found (inl mine) = absurd (let same : false ≡ true = sym is ∙ ap q mine ∙ here in cc)
  one_more h rest rows false false is here found (inl mine) = found
  one_more h rest rows true true is here found (inr other) = behind H h rest other ∙ found ∙ sym (behind H h rows other)
  one_more h rest rows true false is here found (inr other) = behind H h rest other ∙ found
  one_more h rest rows false true is here found (inr other) = found ∙ sym (behind H h rows other)
  one_more h rest rows false false is here found (inr other) = found

  -- a holder is found among those that pass as among all, where the holder's own number passes
  pub found_where : (rows : List HolderRows) → row_at holder_key H (filter (λ h. q (holder_key h)) rows) ≡ (if q H then row_at holder_key H rows else None)
  found_where [] = by_test (q H)
    where
      by_test : (e : Bool) → ◌≡◌ {A = Option HolderRows} None (if e then None else None)
      by_test true = refl
      by_test false = refl
  found_where (h ∷ rows) =
      one_more h (filter (λ h. q (holder_key h)) rows) rows (q (holder_key h)) (q H) refl refl (found_where rows) (cases_eq (holder_key h) H)

account_where : (country : List ℕ) (e : Bool) (found : Option HolderRows)
    → account_with country (if e then found else None) ≡ (if e then account_with country found else empty_account country)
account_where country true found = refl
account_where country false found = refl

pub accounts_are_of_the_range : AccountsAreOfTheRange
accounts_are_of_the_range first last c H =
    ap (account_with c.country) (found_where (is_between first last) H c.holders)
    ∙ account_where c.country (is_between first last H) (row_at holder_key H c.holders)

pub sound_parts_are_sound : SoundPartsAreSound
sound_parts_are_sound first last c sound = record {
  country = sound.country;
  order = rises-filter holder_key (λ h. is_between first last (holder_key h)) 0 c.holders sound.order;
  holders = all-filter (AreHolderRows c.country) (λ h. is_between first last (holder_key h)) c.holders sound.holders;
}
