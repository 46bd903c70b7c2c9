use Rattle.std.proofs.Common.{ap, sym, ◌∙◌, take}
use Rattle.td_journal.proofs.Prefixes.{safe_cut, cut_prefix}
use Rattle.td_journal.proofs.journal.Journal.cut_off.Goals as goal

pub returns-in_err-set_len-clause-safe : goal.returns-in_err-set_len-clause-safe
returns-in_err-set_len-clause-safe g c = λ safe bytes may.
    let j = c.args.self.now in
    let disk = g.F.Disk in
    safe_cut (disk.may_leave j.file) (disk.may_leave c.set_len.new.self) j.end (disk.seen j.file) j.inside safe c.set_len.ensures.crash bytes may
    ∙ sym (cut_prefix j.end (disk.seen j.file) (disk.seen c.set_len.new.self) j.inside c.set_len.ensures.others)

pub returns-clause-text : goal.returns-clause-text
returns-clause-text g c =
    let j = c.args.self.now in
    let disk = g.F.Disk in
    ap (take j.end) c.sync.ensures.seen ∙ cut_prefix j.end (disk.seen j.file) (disk.seen c.set_len.new.self) j.inside c.set_len.ensures.others

pub returns-clause-safe : goal.returns-clause-safe
returns-clause-safe g c = λ safe bytes may.
    let j = c.args.self.now in
    let disk = g.F.Disk in
    safe_cut (disk.may_leave j.file) (disk.may_leave c.set_len.new.self) j.end (disk.seen j.file) j.inside safe c.set_len.ensures.crash
    bytes (c.sync.ensures.crash bytes may)
    ∙ sym (returns-clause-text g c)
