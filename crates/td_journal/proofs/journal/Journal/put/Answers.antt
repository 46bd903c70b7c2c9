use Rattle.std.proofs.Common.{ap, sym, ◌∙◌, take}
use Rattle.td_journal.proofs.Prefixes.{safe_torn, torn_prefix}
use Rattle.td_journal.proofs.journal.Journal.put.Goals as goal

pub returns-clause-safe : goal.returns-clause-safe
returns-clause-safe g c = λ safe bytes may.
    let j = c.args.self.now in
    let disk = g.F.Disk in
    safe_torn (disk.may_leave j.file) (disk.may_leave c.write_at.new.self) j.end (disk.seen j.file) j.inside safe _ c.write_at.ensures.crash
    bytes (c.sync.ensures.crash bytes may)
    ∙ sym (ap (take j.end) c.sync.ensures.seen ∙ torn_prefix j.end _ (disk.seen j.file) (disk.seen c.write_at.new.self) j.inside c.write_at.ensures.others)
