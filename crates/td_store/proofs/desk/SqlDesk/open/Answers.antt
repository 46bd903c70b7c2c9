use Rattle.std.proofs.Common.{refl}
use Rattle.std.specs.Prelude.{IsTrue}
use Rattle.sqlite.specs.Held.{state}
use Rattle.td_store_audit_rows.proofs.Raw.{content_keeps}
use Rattle.td_store.specs.Kept.{content_in}
use Rattle.td_store.proofs.Leaving.{leaves_shown}
use Rattle.td_store.proofs.Refusing.{another_there, broken_there, desk_there, earlier_there, sound_there, unknown_there}
use Rattle.td_store.proofs.desk.SqlDesk.open.Goals as goal

pub over-requires-clause-desk : goal.over-requires-clause-desk
over-requires-clause-desk g c = λ clean is.
    let it = desk_there c.args.country (state g.S.Store c.args.conn).now (state g.S.Store c.refusal.new.conn)
    (c.in-None.ensures.told clean) (c.refusal.ensures.looks.same clean is) c.see_settled.ensures.sound is in
    (content_in (state g.S.Store c.refusal.new.conn).now.trees, it.0, it.1)

pub returns-in-None-clause-opened : goal.returns-in-None-clause-opened
returns-in-None-clause-opened g c =
    rw c.over.ensures (λ clean.
    let is : IsTrue (state g.S.Store c.refusal.new.conn).is_open = (c.in-None.ensures.shown clean refl).1 in
    (desk_there c.args.country (state g.S.Store c.args.conn).now (state g.S.Store c.refusal.new.conn)
    (c.in-None.ensures.told clean) (c.refusal.ensures.looks.same clean is) c.see_settled.ensures.sound is).0)

pub returns-in-None-clause-country : goal.returns-in-None-clause-country
returns-in-None-clause-country g c =
    rw c.over.ensures (λ clean.
    let is : IsTrue (state g.S.Store c.refusal.new.conn).is_open = (c.in-None.ensures.shown clean refl).1 in
    (desk_there c.args.country (state g.S.Store c.args.conn).now (state g.S.Store c.refusal.new.conn)
    (c.in-None.ensures.told clean) (c.refusal.ensures.looks.same clean is) c.see_settled.ensures.sound is).1)

pub returns-in-None-clause-version : goal.returns-in-None-clause-version
returns-in-None-clause-version g c =
    rw c.over.ensures (λ clean.
    let is : IsTrue (state g.S.Store c.refusal.new.conn).is_open = (c.in-None.ensures.shown clean refl).1 in
    (desk_there c.args.country (state g.S.Store c.args.conn).now (state g.S.Store c.refusal.new.conn)
    (c.in-None.ensures.told clean) (c.refusal.ensures.looks.same clean is) c.see_settled.ensures.sound is).2)

pub returns-in-None-clause-leaves : goal.returns-in-None-clause-leaves
returns-in-None-clause-leaves g c =
    rw c.over.ensures (λ clean. leaves_shown g.S.Store c.refusal.new.conn c.see_settled.ensures.settled
    (λ is.
    let it = desk_there c.args.country (state g.S.Store c.args.conn).now (state g.S.Store c.refusal.new.conn)
    (c.in-None.ensures.told clean) (c.refusal.ensures.looks.same clean is) c.see_settled.ensures.sound is in
    (content_in (state g.S.Store c.refusal.new.conn).now.trees, it.0)))

pub returns-in-Some-clause-unknown : goal.returns-in-Some-clause-unknown
returns-in-Some-clause-unknown g c = λ clean is.
    unknown_there c.args.country (state g.S.Store c.args.conn).now c.in-Some.fault (c.in-Some.ensures.told clean) is

pub returns-in-Some-clause-other : goal.returns-in-Some-clause-other
returns-in-Some-clause-other g c = λ clean is.
    another_there c.args.country (state g.S.Store c.args.conn).now c.in-Some.fault (c.in-Some.ensures.told clean) is

pub returns-in-Some-clause-earlier : goal.returns-in-Some-clause-earlier
returns-in-Some-clause-earlier g c = λ clean version is.
    earlier_there c.args.country (state g.S.Store c.args.conn).now c.in-Some.fault (c.in-Some.ensures.told clean) version is

pub returns-in-Some-clause-broken : goal.returns-in-Some-clause-broken
returns-in-Some-clause-broken g c = λ clean rule is.
    broken_there c.args.country (state g.S.Store c.args.conn).now c.in-Some.fault (c.in-Some.ensures.told clean) rule is

pub returns-in-Some-clause-sound : goal.returns-in-Some-clause-sound
returns-in-Some-clause-sound g c = λ clean is content holds at.
    sound_there c.args.country (state g.S.Store c.args.conn) is content holds at content_keeps
    c.in-Some.fault (c.in-Some.ensures.told clean)
