-- All movements and all guarantees of a desk under their keys, by holder and then by serial, and what of them stands behind a place.
use Rattle.std.specs.Prelude.{◌≡◌, ℕ, ◌==◌, Bool, ◌&&◌, ◌||◌, nat_lt, List, [], ◌∷◌, map, filter, slice_get, Option, Some, None}
use Rattle.std.specs.List.{flat_map}
use Rattle.sqlite.specs.State.{State}
use Rattle.td_guarantee.specs.declared.guarantee.Guarantee.{Guarantee}
use Rattle.td_guarantee.specs.Usage.{used_on}
use Rattle.td_movement.specs.declared.movement.Movement.{Movement}
use Rattle.td_model.specs.Account.{HolderRows}
use Rattle.td_model.specs.Content.{Content}
use Rattle.td_table_model.specs.Tables.{Keyed, Kept, kept_in, movements_in, numbered}
use Rattle.td_store_rows.specs.StoreTables.{HoldsContent}

-- something of a holder's, under the holder's number and its serial
abbrev pub keyed : {X : Type 0} → ℕ → ℕ × X → Keyed X
keyed H p = record { holder = H; serial = p.0; row = p.1 }

-- a holder's movements, and a holder's guarantees with the amount in use on each
abbrev pub movements_at : HolderRows → List (Keyed Movement)
movements_at h = map (keyed h.row.holder) (numbered 0 h.movements)

abbrev pub guarantees_at : HolderRows → List (Keyed (Guarantee × ℕ))
guarantees_at h = map (λ p. keyed h.row.holder (p.0, (p.1, used_on p.1.grn h.movements))) (numbered 0 h.guarantees)

-- those of all holders; and their rows, which have no lines and no codes
abbrev pub movements_placed : Content → List (Keyed Movement)
movements_placed c = flat_map movements_at c.holders

abbrev pub guarantees_placed : Content → List (Keyed (Guarantee × ℕ))
guarantees_placed c = flat_map guarantees_at c.holders

abbrev pub movement_rows : Content → List (Keyed Movement)
movement_rows c = flat_map movements_in c.holders

abbrev pub kept_rows : Content → List (Keyed Kept)
kept_rows c = flat_map kept_in c.holders

-- something of a holder's with the holder's number alone
abbrev pub with_holder : {X : Type 0} → Keyed X → ℕ × X
with_holder x = (x.holder, x.row)

-- what stands behind the place of a holder's number and a serial: that of a greater number, and of that number under a greater
-- serial. (0, 0) is before all.
abbrev pub is_behind : {X : Type 0} → ℕ → ℕ → Keyed X → Bool
is_behind H n x = nat_lt H x.holder || (x.holder == H && nat_lt n x.serial)

abbrev pub behind : {X : Type 0} → ℕ → ℕ → List (Keyed X) → List (Keyed X)
behind H n xs = filter (is_behind H n) xs

-- this stands first behind that place, and behind it the others do; none: nothing stands behind that place
abbrev pub ComesNext : {X : Type 0} → ℕ → ℕ → List (Keyed X) → Option (Keyed X) → Type 0
ComesNext H n all None = behind H n all ≡ []
ComesNext H n all (Some x) = behind H n all ≡ x ∷ behind x.holder x.serial all

-- where the store holds a content, this is the first behind that place of what f says of the content; none: nothing stands behind it
abbrev pub IsFirstBehind : {X : Type 0} → (Content → List (Keyed X)) → ℕ → ℕ → State → Option (Keyed X) → Type 0
IsFirstBehind f H n s found = (c : Content) → HoldsContent c s → found ≡ slice_get (behind H n (f c)) 0

-- what was found under a holder's number and a serial
abbrev pub found_at : {X : Type 0} → ℕ × ℕ × X → Keyed X
found_at found = record { holder = found.0; serial = found.1; row = found.2 }
