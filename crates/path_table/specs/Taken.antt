-- What the parameters of a route took of a path.
use Rattle.std.specs.Prelude.{ℕ, List, map}
use Rattle.matchit.specs.Params.{walk}
use Rattle.matchit.specs.declared.params.Params.{Params}

-- the parts, from left to right
abbrev pub taken_parts : Params → List (List ℕ)
taken_parts params = map (λ n. n.1) (walk params.pattern.now params.text.now params.path.now params.names.now 0 0)
