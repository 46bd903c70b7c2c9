use Rattle.std.proofs.Common.{map}
use Rattle.td_http.proofs.ConnectionsAlike.{served_over_at, tell_alike_over}
use Rattle.td_http.proofs.connection_laws.agreeing_connections_tell_the_same.Goals as goal

pub returns : goal.returns
returns g c = λ country H books others old new count answer other_old other_new other_count other_answer one other one_at other_at same.
    let desk = g.D.Desk in
    let streams = map (λ connection. connection.exchanges) one.all_served in
    let served = served_over_at desk.seen country books old.handler new.handler streams one_at.desk one_at.clean one_at.private in
    let other_desk = g.OtherD.Desk in
    let other_streams = map (λ connection. connection.exchanges) other.all_served in
    let other_served = served_over_at other_desk.seen country others other_old.handler other_new.handler other_streams other_at.desk other_at.clean other_at.private in
    tell_alike_over country H books others streams other_streams served.0 other_served.0 served.1 other_served.1 same
