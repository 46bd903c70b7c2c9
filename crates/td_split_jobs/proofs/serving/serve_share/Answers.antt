use Rattle.std.proofs.Common.{refl}
use Rattle.td_split_jobs.proofs.serving.serve_share.Goals as goal

pub returns : goal.returns
returns g c = (
  c.serve_connections.ensures.0,
  λ clean live sound. record { country_is = refl; live = live; sound = sound; clean = clean; private = c.serve_connections.ensures.1 },
)
