use Rattle.std.proofs.Common.{subst}
use Rattle.td_http.specs.Serving.{desk_of}
use Rattle.td_http.proofs.Kept.{keeps_first, kept_between}
use Rattle.td_http.proofs.Streamed.{ending_stays}
use Rattle.td_http.proofs.laws.acknowledged_replies_are_kept.Goals as goal

pub returns : goal.returns
returns g c = λ country books old new end first others served at settled are.
    let view = g.D.Desk.seen in
    let run = served.run in
    let is = at.desk in
    kept_between g.C.Clock.ticks view country books run.exchanges first others (old.clock, old.handler) (new.clock, run.handler)
    (keeps_first view country books (desk_of old.handler) is.live is.country_is is.sound is.tied settled) served.chain
    (subst view.is_clean (ending_stays run.handler new.handler run.rest run.ending served.ending) at.clean) are
