use Rattle.std.proofs.Common.{◌∙◌, sym}
use Rattle.td_store_rows.specs.LineTable.{line_row_of}
use Rattle.td_store_audit_rows.proofs.Named.{belong_decided}
use Rattle.td_store_audit_rows.proofs.in_place.owners.lines_belong.Goals as goal

pub returns : goal.returns
returns c =
    let decided = belong_decided line_row_of c.args.movements c.args.rows.now in
    (λ told. decided.0 (sym c.are_lines_within.ensures ∙ told), λ kept. c.are_lines_within.ensures ∙ decided.1 kept)
