use Rattle.std.proofs.Common.{◌≡◌, ◌∙◌, ◌++◌, ℕ, List, true, false, ap, append_assoc, arith, rules}
use Rattle.std.proofs.lemmas.List.{length-append}
use Rattle.td_replay.proofs.Followed.{end_in, error_is, gives_piece, none_behind, piece_in}
use Rattle.td_replay.proofs.following.next_line.Goals as goal

pub returns-in_err-fill-clause-failed : goal.returns-in_err-fill-clause-failed
returns-in_err-fill-clause-failed g c =
    let (given, gave, bytes, count) = c.loop.invariant in
    rw (error_is c.from_residual-in_err-fill.result c.in_err-fill.field-0.0 c.from_residual-in_err-fill.ensures.1)
    (none_behind g.R.Read.remaining c.args.input.now c.loop.input c.fill.new.input given gave c.in_err-fill.field-0.0 c.in_err-fill.ensures.failed)

pub returns-then-not-branch-clause-line : goal.returns-then-not-branch-clause-line
returns-then-not-branch-clause-line g c =
    let (given, gave, bytes, count) = c.loop.invariant in
    let (torn, same) = c.in_ok-line.ensures.none c.in_default.is in
    let none : c.in_ok-fill.field-0 ≡ false = search rules in
    let (ended, left) = end_in g.R.Read.remaining c.loop.input c.fill.new.input c.take_line.new.bytes.items c.fill.new.bytes.items c.in_ok-fill.field-0 none c.in_ok-fill.ensures.more in
    record { given = given; read = c.loop.input; gave = gave; ended = ended; bytes_are = ◌∙◌ {A = List ℕ} left (◌∙◌ {A = List ℕ} same bytes); torn = rw left torn }

pub loop-preserved : goal.loop-preserved
loop-preserved g c =
    let (given, gave, bytes, count) = c.loop.invariant in
    let (torn, same) = c.in_ok-line.ensures.none c.in_default.is in
    let some : c.in_ok-fill.field-0 ≡ true = search rules in
    let (piece, brings, more) = piece_in g.R.Read.remaining c.loop.input c.fill.new.input c.take_line.new.bytes.items c.fill.new.bytes.items c.in_ok-fill.field-0 some c.in_ok-fill.ensures.more in
    let size = length-append given piece in (
      given ++ piece,
      gives_piece g.R.Read.remaining c.args.input.now c.loop.input c.fill.new.input given piece gave brings,
      ◌∙◌ {A = List ℕ} more (◌∙◌ {A = List ℕ} (ap (λ (b : List ℕ). b ++ piece) (◌∙◌ {A = List ℕ} same bytes)) (append_assoc c.args.bytes.now.items given piece)),
      omega (arith, size, count, brings.1),
    )
