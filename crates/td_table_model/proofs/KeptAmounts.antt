-- The amounts that tables keep are those in use, and tables get them.
use Rattle.std.proofs.Common.{◌≡◌, ℕ, List, [], ◌∷◌, ◌++◌, map, flat_map, Some, refl, sym, ◌∙◌, ap, ap₂, subst₂, IsPermutation}
use Rattle.std.specs.List.{AllByRecursion}
use Rattle.std.specs.Option.{option_map_or}
use Rattle.std.proofs.lemmas.List.{map-append}
use Rattle.std.proofs.lemmas.List.Sorted.{IsPermutation-map, IsPermutation-trans}
use Rattle.sqlite_trees.proofs.ListLemmas.{all_weaker, all-flat_map, all-map, all-permutation}
use Rattle.keyed_rows.specs.Rows.{row_at}
use Rattle.td_guarantee.specs.declared.guarantee.Guarantee.{Guarantee}
use Rattle.td_guarantee.specs.Usage.{used_on}
use Rattle.td_movement.specs.declared.movement.Movement.{Movement}
use Rattle.td_model.specs.Account.{HolderRows, holder_key}
use Rattle.td_model.specs.Content.{Content, IsSound, account_in}
use Rattle.td_table_model.specs.Tables.{Keyed, Kept, guarantees_in, kept_in, with_use}
use Rattle.td_table_model.specs.Gathering.{owner}
use Rattle.td_table_model.specs.Laws.{AmountsAreUse, IsAmountOf, TablesGrow}
use Rattle.td_table_model.proofs.Amounts.{use_again}
use Rattle.td_table_model.proofs.Numbered.{map_same}
use Rattle.td_table_model.proofs.Orders.{each_found}
use Rattle.td_table_model.proofs.Owned.{owned_guarantees}

module _ (c : Content) (sound : IsSound c) where
  -- the movements that the content has of a number
  abbrev movements_of : ℕ → List Movement
  movements_of H = (account_in H c).movements

  -- are those of its holder
  abbrev HasOwn : HolderRows → Type 0
  HasOwn h = movements_of h.row.holder ≡ h.movements

  own_movements : AllByRecursion HasOwn c.holders
  own_movements =
      all_weaker (λ (h : HolderRows). row_at holder_key (holder_key h) c.holders ≡ Some h) HasOwn
      (λ h found. ap (λ o. option_map_or (λ (h : HolderRows). h.movements) o []) found) c.holders (each_found holder_key 0 c.holders sound.order)

  -- so the amounts that a holder's guarantees are to have are in use
  rows_in_use : (h : HolderRows) → HasOwn h → AllByRecursion (IsAmountOf c) (kept_in h)
  rows_in_use h own =
      all-map (IsAmountOf c) (with_use h.movements) (guarantees_in h)
      (all_weaker (λ x. owner x ≡ holder_key h) (λ g. IsAmountOf c (with_use h.movements g)) (λ g is. ap (used_on g.row.grn) (sym (ap movements_of is ∙ own)))
      (guarantees_in h) (owned_guarantees h))

  -- and the guarantees of all holders with what is in use are the rows that are to keep it
  abbrev with_own_use : Keyed Guarantee → Keyed Kept
  with_own_use g = with_use (movements_of g.holder) g

  used_in : (hs : List HolderRows) → AllByRecursion HasOwn hs → map with_own_use (flat_map guarantees_in hs) ≡ flat_map kept_in hs
  used_in [] own = refl
  used_in (h ∷ hs) own =
      map-append with_own_use (guarantees_in h) (flat_map guarantees_in hs)
      ∙ ap₂ ◌++◌
      (map_same with_own_use (with_use h.movements) (guarantees_in h)
      (all_weaker (λ x. owner x ≡ holder_key h) (λ g. with_own_use g ≡ with_use h.movements g) (λ g is. ap (λ ms. with_use ms g) (ap movements_of is ∙ own.0))
      (guarantees_in h) (owned_guarantees h)))
      (used_in hs own.1)

pub amounts_are_use : AmountsAreUse
amounts_are_use t c sound are keep =
    all-permutation (IsAmountOf c) (flat_map kept_in c.holders) t.kept (are.kept keep)
    (all-flat_map (IsAmountOf c) kept_in c.holders (all_weaker (HasOwn c sound) (λ h. AllByRecursion (IsAmountOf c) (kept_in h)) (rows_in_use c sound) c.holders (own_movements c sound)))

pub tables_grow : TablesGrow
tables_grow t c kept sound are same right = record {
  country = are.country;
  holders = are.holders;
  guarantees = are.guarantees;
  kept = λ keep.
      subst₂ IsPermutation (used_in c sound c.holders (own_movements c sound)) (use_again (movements_of c sound) kept right)
      (IsPermutation-map (with_own_use c sound) _ _ (IsPermutation-trans _ _ _ are.guarantees same));
  codes = are.codes;
  movements = are.movements;
  lines = are.lines;
}
