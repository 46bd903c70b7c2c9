use Rattle.std.proofs.Common.{codes}
use Rattle.clap.specs.Words.{first_of, found_of, rows_of}
use Rattle.td_words.proofs.Asked.{none_up, range_of_extract}
use Rattle.td_words.specs.Words.{IsRange, IsTransfer, Means}
use Rattle.td_words.proofs.words.transfer_in.Goals as goal

pub returns-in_err-holders-in-extract-clause-none : goal.returns-in_err-holders-in-extract-clause-none
returns-in_err-holders-in-extract-clause-none c =
    let rows = rows_of (found_of c.args.matches.now) in
    none_up (Means IsRange (first_of (codes "holders") rows)) (IsTransfer c.args.name.now rows)
    (range_of_extract c.args.name.now rows c.in-extract.is)
    c.from_residual.result c.in_err-holders-in-extract.field-0.0 c.from_residual.ensures.1 c.in_err-holders-in-extract.ensures.none
