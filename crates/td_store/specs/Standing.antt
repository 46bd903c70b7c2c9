-- What is known of a desk by where a walk along its rows stands, and a guarantee as a walk gives it.
use Rattle.std.specs.Prelude.{ℕ, Bool, true, false}
use Rattle.td_guarantee.specs.declared.guarantee.Guarantee.{Guarantee}
use Rattle.td_desk.specs.declared.fault.Fault.TheVariants.{NoMemory, Store}
use Rattle.td_store.specs.declared.rows.Place.{Place}
use Rattle.td_store.specs.declared.rows.Place.TheVariants.{After, Ended, Failed}

-- the walk ended, or memory was wanting: so the desk is live, as far as its disk is clean
abbrev pub tells_live : Place → Bool
tells_live (After H n) = false
tells_live Ended = true
tells_live (Failed NoMemory) = true
tells_live (Failed Store) = false

-- a holder's number, a guarantee and the amount in use on it
abbrev pub guarantee_given : ℕ × Guarantee × ℕ → ℕ × (Guarantee × ℕ)
guarantee_given x = (x.0, (x.1, x.2))
