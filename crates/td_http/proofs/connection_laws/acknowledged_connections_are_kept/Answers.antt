use Rattle.std.proofs.Common.{ap, length, subst}
use Rattle.td_http.specs.Connections.{connections_by}
use Rattle.td_http.specs.Serving.{desk_of}
use Rattle.td_http.proofs.Kept.{keeps_first}
use Rattle.td_http.proofs.KeptOver.{kept_within, last_is}
use Rattle.td_http.proofs.connection_laws.acknowledged_connections_are_kept.Goals as goal

pub returns : goal.returns
returns g c = λ country books old new count answer cut served at settled list_is exchanges_are.
    let view = g.D.Desk.seen in
    let L = g.L.Connections in
    let is = at.desk in
    kept_within (connections_by g.L.Reader.Read.remaining g.L.Writer.Write.contents L.gives L.takes L.refuses) g.C.Clock.ticks view country books served.all_served cut old served.last
    (keeps_first view country books (desk_of old.handler) is.live is.country_is is.sound is.tied settled) served.were_served
    (subst view.is_clean (ap desk_of (last_is L.refuses served.last new (length served.all_served) count answer served.ended)) at.clean)
    list_is exchanges_are
