use Rattle.td_journal_start.proofs.tail.find_last.Goals as goal

pub returns-clause-none : goal.returns-clause-none
returns-clause-none g c = λ clean none.
    c.in_ok-found_in.ensures.none none (g.F.Disk.seen c.args.file.now) c.in_ok-tail.ensures.full (c.in_ok-tail.ensures.end clean)
