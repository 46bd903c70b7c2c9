use Rattle.std.proofs.Common.{rules, ◌≡◌}
use Rattle.std.specs.Fmt.{digits}
use Rattle.http_wire.proofs.reply.JsonHeadDisplay.fmt.Goals as goal

pub returns-then-eq-clause-writes : goal.returns-then-eq-clause-writes
unfolding digits
returns-then-eq-clause-writes g c =
    let ok : c.args.self.now.0 ≡ 200 = search rules in
    rw ok c.write_str.ensures.writes
