use Rattle.std.proofs.Common.{inl, inr, refl}
use Rattle.td_jobs.proofs.serving.serve_there.Goals as goal

pub returns-then-not-write_whole : goal.returns-then-not-write_whole
returns-then-not-write_whole g c = λ ready lines.
    inl (rw (← lines.0, ← c.as_bytes.ensures.value) (c.write_whole.ensures.cut c.if-not-write_whole.true), refl)

pub returns-in-Err : goal.returns-in-Err
returns-in-Err g c = λ ready lines.
    let said = rw (c.as_bytes.ensures.value, lines.0) at (c.write_whole.ensures.whole c.if-not-write_whole.false) in
    (c.in-Err.field-0, (said, c.in-Err.ensures ready))

pub returns-then-not-write_whole-2 : goal.returns-then-not-write_whole-2
returns-then-not-write_whole-2 g c = λ ready lines.
    let said = rw (c.as_bytes.ensures.value, lines.0) at (c.write_whole.ensures.whole c.if-not-write_whole.false) in
    inr (c.write_whole.new.writer, (said, c.in-Ok.ensures ready), rw (← lines.1, ← c.as_bytes-2.ensures.value) (c.write_whole-2.ensures.cut c.if-not-write_whole-2.true))

pub returns : goal.returns
returns g c = λ ready lines.
    let said = rw (c.as_bytes.ensures.value, lines.0) at (c.write_whole.ensures.whole c.if-not-write_whole.false) in
    (c.write_whole.new.writer, (said, c.in-Ok.ensures ready), rw (← lines.1, ← c.as_bytes-2.ensures.value) (c.write_whole-2.ensures.whole c.if-not-write_whole-2.false))
