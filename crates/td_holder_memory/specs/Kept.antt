-- Amounts in use that are kept.
use Rattle.std.specs.Prelude.{◌≡◌, ℕ, List, Bool, IsTrue, if◌then◌else◌}
use Rattle.std.specs.List.{sum_by}
use Rattle.std.specs.Str.{bytes_eq}

-- the amounts that are kept, each beside its guarantee's GRN, and whether nothing is in use on any other guarantee
pub record Kept : Type 0 where
  pub amounts : List (List ℕ × ℕ)
  pub are_all : Bool

-- what is kept of the guarantee with this GRN
abbrev pub kept_on : List ℕ → List (List ℕ × ℕ) → ℕ
kept_on grn amounts = sum_by (λ k. if bytes_eq k.0 grn then k.1 else 0) amounts

-- what is kept is what is in use on each guarantee, unless it was forgotten
abbrev pub AreKept : (List ℕ → ℕ) → Kept → Type 0
AreKept used kept = IsTrue kept.are_all → (grn : List ℕ) → kept_on grn kept.amounts ≡ used grn
