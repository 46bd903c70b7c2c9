use Rattle.std.proofs.Common.{◌≡◌, true, rules, ◌∙◌, sym, length}
use Rattle.std.specs.Result.{is_ok}
use Rattle.csv.specs.Records.{fields_of}
use Rattle.td_batch_rows.proofs.Taking.{header_taken, row_taken, row_refused}
use Rattle.td_batch_rows.proofs.reading.take_record.Goals as goal

pub returns-then-is_header-clause-taken : goal.returns-then-is_header-clause-taken
returns-then-is_header-clause-taken g c records taken =
    let r = g.R.FileRow in
    header_taken r.is_header r.row_of _ records _ _ c.if-not-headed.true taken (sym c.is_header.ensures ∙ c.if-is_header.true)

pub returns-else-is_err-clause-taken : goal.returns-else-is_err-clause-taken
returns-else-is_err-clause-taken g c records taken =
    let r = g.R.FileRow in
    let headed : c.args.headed ≡ true = search rules in
    let good : is_ok c.push.result ≡ true = search rules in
    let items = rw good at c.push.ensures.items in
    rw items (row_taken r.is_header r.row_of c.args.headed records c.args.rows.now.items (fields_of c.args.row.now) c.in-Ok.more headed taken (sym c.in_ok-more.ensures ∙ c.in-Ok.is))

pub returns-in-Err-clause-told : goal.returns-in-Err-clause-told
returns-in-Err-clause-told g c records rest taken =
    let r = g.R.FileRow in
    let headed : c.args.headed ≡ true = search rules in
    let size : c.len.result ≡ length c.args.rows.now.items = search rules in
    rw size (row_refused r.is_header r.row_of c.args.headed records rest c.args.rows.now.items (fields_of c.args.row.now) c.in-Err.column headed taken (sym c.in_ok-more.ensures ∙ c.in-Err.is))
