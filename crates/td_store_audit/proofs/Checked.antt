-- The CHECK of a holder's number read backward.
use Rattle.std.proofs.Common.{◌≡◌, ◌∙◌, ℕ, ℤ, ◌≤◌, Bool, true, false, true≢false, refl, sym, ap, arith}
use Rattle.std.specs.Prelude.{int_le, pos, negsuc, not, ◌&&◌}
use Rattle.std.proofs.lemmas.Int.{ints}
use Rattle.sqlite_value.specs.declared.keys.Collation.TheVariants.{Binary}
use Rattle.sqlite_value.specs.declared.value.Value.TheVariants.{Int}
use Rattle.sqlite_value.specs.Order.{Row}
use Rattle.sqlite_trees.specs.Tree.{rowid}
use Rattle.sqlite_sql.specs.declared.ops.BinaryOp.TheVariants.{And, Compare}
use Rattle.sqlite_sql.specs.declared.ops.CompareOp.TheVariants.{Ge, Le}
use Rattle.sqlite_sql.specs.Ops.{binary}
use Rattle.sqlite_typed.proofs.TestLemmas.{at_and, at_ints, truth_or}
use Rattle.typed_sql.specs.Values.{number_value}
use Rattle.td_store_audit.proofs.Ruled.{IsChecked, both}

-- the row's rowid is a number of six digits, and not 0
pub record IsNumbered (row : Row) : Type 0 where
  pub number : ℕ
  pub is : rowid row ≡ number_value number
  pub least : 1 ≤ number
  pub most : number ≤ 999999

pub checked : (row : Row) (id : ℤ) → rowid row ≡ Int id → IsChecked row → IsNumbered row
checked row id is passed =
    let low = binary (Compare Ge Binary) (rowid row) (Int (pos 1)) in
    let high = binary (Compare Le Binary) (rowid row) (Int (pos 999999)) in
    let tests = at_and true low high (ap (λ v. truth_or true (binary (Compare Ge Binary) v (Int (pos 1)))) is ∙ at_ints true Ge id (pos 1))
    (ap (λ v. truth_or true (binary (Compare Le Binary) v (Int (pos 999999)))) is ∙ at_ints true Le id (pos 999999)) in
    let two = both (int_le (pos 1) id) (int_le id (pos 999999)) (sym tests ∙ twice (truth_or true (binary And low high)) passed) in
    by_sign id is two.0 two.1
  where
    twice : (b : Bool) → (not (not b) && true) ≡ true → b ≡ true
    twice true is = refl
    twice false is = absurd (true≢false (sym is))

    by_sign : (n : ℤ) → rowid row ≡ Int n → int_le (pos 1) n ≡ true → int_le n (pos 999999) ≡ true → IsNumbered row
    by_sign (pos n) is low high = record { number = n; is = is; least = grind (arith, ints, low); most = grind (arith, ints, high) }
    by_sign (negsuc n) is low high = absurd (grind (arith, ints, low))
