use Rattle.td_http.proofs.Alike.{served_at, tell_alike}
use Rattle.td_http.proofs.laws.agreeing_streams_tell_the_same.Goals as goal

pub returns : goal.returns
returns g c = λ country H books others old new end other_old other_new other_end one other one_at other_at same.
    let desk = g.D.Desk in
    let served = served_at desk.seen country books old.handler new.handler one.run.exchanges one_at.desk one_at.clean one_at.private in
    let other_desk = g.OtherD.Desk in
    let other_served = served_at other_desk.seen country others other_old.handler other_new.handler other.run.exchanges other_at.desk other_at.clean other_at.private in
    tell_alike country H books others one.run.exchanges other.run.exchanges served.0 other_served.0 served.1 other_served.1 same
