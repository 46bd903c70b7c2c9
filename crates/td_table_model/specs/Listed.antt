-- All movements and all guarantees of a desk, each with its holder's number: by holder, and then by serial.
use Rattle.std.specs.Prelude.{ℕ, List, [], map}
use Rattle.std.specs.List.{flat_map}
use Rattle.td_guarantee.specs.declared.guarantee.Guarantee.{Guarantee}
use Rattle.td_guarantee.specs.Usage.{used_on}
use Rattle.td_movement.specs.declared.movement.Movement.{Movement}
use Rattle.td_model.specs.Account.{HolderRows}
use Rattle.td_model.specs.Content.{Content}

-- a holder's movements, and a holder's guarantees with the amount in use on each
abbrev pub movements_of : HolderRows → List (ℕ × Movement)
movements_of h = map (λ m. (h.row.holder, m)) h.movements

abbrev pub guarantees_of : HolderRows → List (ℕ × (Guarantee × ℕ))
guarantees_of h = map (λ g. (h.row.holder, (g, used_on g.grn h.movements))) h.guarantees

-- those of all holders
abbrev pub movements_listed : Content → List (ℕ × Movement)
movements_listed c = flat_map movements_of c.holders

abbrev pub guarantees_listed : Content → List (ℕ × (Guarantee × ℕ))
guarantees_listed c = flat_map guarantees_of c.holders

-- what the row of a guarantee says of it, with the amount in use
abbrev pub without_codes : ℕ × (Guarantee × ℕ) → ℕ × (Guarantee × ℕ)
without_codes p = (p.0, (record p.1.0 { codes = [] }, p.1.1))
