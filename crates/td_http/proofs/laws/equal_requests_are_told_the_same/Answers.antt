use Rattle.std.proofs.Common.{sym}
use Rattle.td_http.proofs.Alike.{served_alone_at, reply_alike}
use Rattle.td_http.proofs.laws.equal_requests_are_told_the_same.Goals as goal

pub returns : goal.returns
returns g c = λ country H books others command at old new asked reply other_old other_new other_asked other_reply one other same own is other_is close alike.
    let desk = g.D.Desk in
    let served = served_alone_at desk.seen country books old new at asked reply one in
    let other_desk = g.OtherD.Desk in
    let other_served = served_alone_at other_desk.seen country others other_old other_new at other_asked other_reply other in
    reply_alike country H (books H) command at asked.close reply other_reply own alike
    (rw is at (served.1.answers H)) (rw (sym same, sym close, other_is) at (other_served.1.answers H))
