use Rattle.td_cli.proofs.at_desk.over_file.Goals as goal

pub returns-clause-done : goal.returns-clause-done
returns-clause-done g c = λ ready. (c.on-end.result.1, c.keep.ensures.there, c.keep.ensures.kept, c.on-end.ensures ready)
