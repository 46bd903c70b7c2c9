use Rattle.std.proofs.Common.{arith, sym, subst, ap, ◌∙◌, Some}
use Rattle.std.proofs.lemmas.Option.{get_or_from_slice_get, slice_get_within}
use Rattle.std.specs.List.{AllByRecursion}
use Rattle.std.specs.Str.{IsUtf8}
use Rattle.path_table.specs.Segments.{parts_of}
use Rattle.path_table.proofs.Looking.{row_found, none_found}
use Rattle.path_table.proofs.Texts.{parts_are_texts}
use Rattle.path_table.proofs.table.PathTable.find.Goals as goal

pub of-parts-requires : goal.of-parts-requires
of-parts-requires g c =
    let self = c.args.self.now in
    let found = row_found g.R.Row.pattern self.rows.now self.router c.args.path.now _ self.of_rows self.sound (λ i. omega (arith, c.type_inv.path i)) c.in-Ok.ensures.found in
    let texts = subst (AllByRecursion IsUtf8) (sym found.parts) (parts_are_texts (g.R.Row.pattern found.row) c.args.path.now c.utf8.path) in
    rw (c.in-Ok.ensures.path) texts

pub returns-in_err-row-in-Ok-clause-row : goal.returns-in_err-row-in-Ok-clause-row
returns-in_err-row-in-Ok-clause-row g c =
    let self = c.args.self.now in
    let found = row_found g.R.Row.pattern self.rows.now self.router c.args.path.now _ self.of_rows self.sound (λ i. omega (arith, c.type_inv.path i)) c.in-Ok.ensures.found in
    let within = slice_get_within self.rows.now c.in-Ok.found.value.now found.row found.at in
    absurd (omega (arith, within, c.in_err-row-in-Ok.ensures.lookup.3))

pub returns-in_ok-row-in-Ok-clause-row : goal.returns-in_ok-row-in-Ok-clause-row
returns-in_ok-row-in-Ok-clause-row g c =
    let self = c.args.self.now in
    let found = row_found g.R.Row.pattern self.rows.now self.router c.args.path.now _ self.of_rows self.sound (λ i. omega (arith, c.type_inv.path i)) c.in-Ok.ensures.found in
    let here = c.in_ok-row-in-Ok.ensures.lookup.1 ∙ get_or_from_slice_get self.rows.now c.in-Ok.found.value.now found.row c.in_ok-row-in-Ok.row.now found.at in
    ap Some here ∙ sym found.found

pub returns-in_ok-row-in-Ok-clause-parts : goal.returns-in_ok-row-in-Ok-clause-parts
returns-in_ok-row-in-Ok-clause-parts g c =
    let self = c.args.self.now in
    let found = row_found g.R.Row.pattern self.rows.now self.router c.args.path.now _ self.of_rows self.sound (λ i. omega (arith, c.type_inv.path i)) c.in-Ok.ensures.found in
    let here = c.in_ok-row-in-Ok.ensures.lookup.1 ∙ get_or_from_slice_get self.rows.now c.in-Ok.found.value.now found.row c.in_ok-row-in-Ok.row.now found.at in
    let taken_is = rw (c.in-Ok.ensures.path) at c.of-parts.ensures in
    taken_is ∙ (found.parts ∙ ap (λ row. parts_of (g.R.Row.pattern row) c.args.path.now) (sym here))

pub returns-in-Err-clause-row : goal.returns-in-Err-clause-row
returns-in-Err-clause-row g c =
    let self = c.args.self.now in
    sym (none_found g.R.Row.pattern self.rows.now self.router c.args.path.now self.of_rows self.sound (λ i. omega (arith, c.type_inv.path i)) c.in-Err.ensures.missing)
