-- A guarantee without its codes: its terms, as a release asks for them.
use Rattle.std.specs.Prelude.{[]}
use Rattle.td_guarantee.specs.declared.guarantee.Guarantee.{Guarantee}

abbrev pub without_codes : Guarantee → Guarantee
without_codes g = record g { codes = [] }
