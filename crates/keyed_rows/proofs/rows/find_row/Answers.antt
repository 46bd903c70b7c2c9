use Rattle.std.proofs.Common.{◌≡◌, sym, ◌∙◌, ap, arith}
use Rattle.std.proofs.lemmas.Bool.Decides.{nat_tests}
use Rattle.std.proofs.lemmas.List.{get_or_default}
use Rattle.keyed_rows.proofs.Places.{found_by, missed_by}
use Rattle.keyed_rows.proofs.rows.find_row.Goals as goal

-- the place is behind all rows
pub returns-in_err-row : goal.returns-in_err-row
returns-in_err-row g c =
    rw c.from_residual.ensures (sym (missed_by g.R.Keyed.key_of c.args.key c.args.rows.now c.rows_below.result c.requires c.rows_below.ensures.value
    (λ d within same. let behind = c.in_err-row.ensures.lookup.0 in grind (arith, nat_tests, within, behind))))

-- the row there is another's
pub returns-then-key : goal.returns-then-key
returns-then-key g c =
    let key_of = g.R.Keyed.key_of in
    let rows = c.args.rows.now in
    let n = c.rows_below.result in
    sym (missed_by key_of c.args.key rows n c.requires c.rows_below.ensures.value
    (λ d within same.
    let here : key_of c.in_ok-row.row.now ≡ c.args.key = ap key_of (c.in_ok-row.ensures.lookup.1 ∙ get_or_default rows n c.in_ok-row.row.now d within) ∙ same in
    grind (arith, nat_tests, here, c.key.ensures, c.if-key.true)))

-- the row there is the one
pub returns : goal.returns
returns g c =
    let key_of = g.R.Keyed.key_of in
    let same : key_of c.in_ok-row.row.now ≡ c.args.key = grind (arith, nat_tests, c.key.ensures, c.if-key.false) in
    let within = c.in_ok-row.ensures.lookup.0 in
    sym (found_by key_of c.args.key c.args.rows.now c.rows_below.result c.in_ok-row.row.now c.requires c.rows_below.ensures.value (grind (arith, nat_tests, within)) c.in_ok-row.ensures.lookup.1 same)
