use Rattle.std.proofs.Common.{◌∙◌, sym}
use Rattle.td_store_rows.specs.CodeTable.{code_row_of}
use Rattle.td_store_audit_rows.proofs.Named.{belong_decided}
use Rattle.td_store_audit_rows.proofs.in_place.owners.codes_belong.Goals as goal

pub returns : goal.returns
returns c =
    let decided = belong_decided code_row_of c.args.guarantees c.args.rows.now in
    (λ told. decided.0 (sym c.are_codes_within.ensures ∙ told), λ kept. c.are_codes_within.ensures ∙ decided.1 kept)
