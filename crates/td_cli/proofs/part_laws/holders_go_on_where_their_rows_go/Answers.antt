use Rattle.td_cli.proofs.GoOn.{go_on_after_extract, go_on_after_join, go_on_at_join, go_on_at_part, joined_tied, parts_tied}
use Rattle.td_cli.proofs.part_laws.holders_go_on_where_their_rows_go.Goals as goal

pub returns-clause-parts : goal.returns-clause-parts
returns-clause-parts g c = parts_tied c.fresh_books_are_tied.ensures c.accounts_are_of_the_range.ensures

pub returns-clause-joined : goal.returns-clause-joined
returns-clause-joined g c = joined_tied c.accounts_are_of_either.ensures

pub returns-clause-part : goal.returns-clause-part
returns-clause-part g c = go_on_at_part g.F.Disk (parts_tied c.fresh_books_are_tied.ensures c.accounts_are_of_the_range.ensures)

pub returns-clause-join : goal.returns-clause-join
returns-clause-join g c = go_on_at_join g.F.Disk (joined_tied c.accounts_are_of_either.ensures)

pub returns-clause-after_extract : goal.returns-clause-after_extract
returns-clause-after_extract g c =
    go_on_after_extract g.F.Disk (go_on_at_part g.F.Disk (parts_tied c.fresh_books_are_tied.ensures c.accounts_are_of_the_range.ensures))

pub returns-clause-after_join : goal.returns-clause-after_join
returns-clause-after_join g c = go_on_after_join g.F.Disk (go_on_at_join g.F.Disk (joined_tied c.accounts_are_of_either.ensures))
