use Rattle.std.proofs.Common.{◌≡◌, ℕ, List, [], ◌∷◌, Bool, true, false, cond, refl, rules, sym, ◌∙◌}
use Rattle.std.proofs.lemmas.Fn.{filter_same}
use Rattle.std.specs.Prelude.{◌||◌, not}
use Rattle.std.specs.List.{list_any}
use Rattle.std.specs.Str.{bytes_eq}
use Rattle.td_guarantee.specs.Codes.{without_code}
use Rattle.td_guarantee.proofs.codes.Items.remove.Goals as goal

-- nothing is left of one code alone that is the code
gone : (known code : List ℕ) (b : Bool) → b ≡ list_any (λ c. bytes_eq c code) (known ∷ []) → b ≡ true → [] ≡ without_code code (known ∷ [])
gone known code b is holds = by (bytes_eq known code) (sym is ∙ holds)
  where
    by : (v : Bool) → (v || false) ≡ true → [] ≡ cond (not v) (known ∷ []) []
    by true h = refl
    by false h = absurd (let never : false ≡ true = h in search rules)

-- one that isn't stays
stays : (known code : List ℕ) (b : Bool) → b ≡ list_any (λ c. bytes_eq c code) (known ∷ []) → b ≡ false → known ∷ [] ≡ without_code code (known ∷ [])
stays known code b is holds = by (bytes_eq known code) (sym is ∙ holds)
  where
    by : (v : Bool) → (v || false) ≡ false → known ∷ [] ≡ cond (not v) (known ∷ []) []
    by false h = refl
    by true h = absurd (let never : true ≡ false = h in search rules)

pub returns-then-contains : goal.returns-then-contains
returns-then-contains c =
    let code = c.in_default.field-0 in
    let known : c.listed.result.now ≡ code ∷ [] = rw c.in_default.is at c.listed.ensures in
    rw (c.in_default.is, c.new.ensures.items) (gone code c.args.code.now c.contains.result (rw known at c.contains.ensures.value) c.if-contains.true)

pub returns-else-contains : goal.returns-else-contains
returns-else-contains c =
    let code = c.in_default.field-0 in
    let known : c.listed.result.now ≡ code ∷ [] = rw c.in_default.is at c.listed.ensures in
    rw c.in_default.is (stays code c.args.code.now c.contains.result (rw known at c.contains.ensures.value) c.if-contains.false)

pub returns-in-Many : goal.returns-in-Many
returns-in-Many c = rw c.in-Many.is (filter_same _ _ _ (λ x b f' k. search rules) _ _ c.retain.ensures.filtered)
