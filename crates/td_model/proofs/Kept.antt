-- What sound content has of a holder.
use Rattle.std.proofs.Common.{◌≡◌, ℕ, List, Option, Some, subst}
use Rattle.std.specs.Prelude.{IfSome}
use Rattle.std.specs.List.{AllByRecursion}
use Rattle.keyed_rows.proofs.Putting.{All-row_at}
use Rattle.td_base.specs.Codes.{IsCountry}
use Rattle.td_model.specs.Account.{HolderRows, ReferencesDiffer, account_with, holder_key}
use Rattle.td_model.specs.Content.{Content, IsSound, account_in, empty_content, rows_of}
use Rattle.td_model.specs.Sound.{AreHolderRows, IsCovered}
use Rattle.td_model.proofs.Differing.{differ_with}

-- a desk with no holders is sound
pub empty_sound : (country : List ℕ) → IsCountry country → IsSound (empty_content country)
empty_sound country form = record { country = form; order = tt; holders = tt }

-- the rows that are found keep their rules
pub found_sound : (H : ℕ) (rows : Content) → IsSound rows → IfSome (rows_of H rows) (AreHolderRows rows.country)
found_sound H rows sound = All-row_at holder_key (AreHolderRows rows.country) H rows.holders sound.holders

-- and so their cover
pub found_covered : (rows : Content) (H : ℕ) (h : HolderRows) → IsSound rows → rows_of H rows ≡ Some h → AllByRecursion (IsCovered h.movements) h.guarantees
found_covered rows H h sound found =
    let rules : AreHolderRows rows.country h = subst (λ (o : Option HolderRows). IfSome o (AreHolderRows rows.country)) found (found_sound H rows sound) in
    rules.cover

-- no two references in what the desk keeps of a holder are alike
pub references_differ : (H : ℕ) (rows : Content) → IsSound rows → ReferencesDiffer (account_in H rows)
references_differ H rows sound = differ_with rows.country (rows_of H rows) sound.country (found_sound H rows sound)
