use Rattle.std.proofs.Common.{Err, Ok, arith}
use Rattle.td_base.specs.References.{IsReferenceText}
use Rattle.td_base.specs.declared.references.RefFault.TheVariants.{CheckDigit}
use Rattle.td_base.proofs.Checked.{check_fits, check_differs}
use Rattle.td_base.proofs.Readers.{reference_read_is}
use Rattle.td_base.proofs.references.read_reference.Goals as goal

pub returns-then-ne : goal.returns-then-ne
returns-then-ne g c =
    let text = c.args.text.now in
    let size = c.if-text.false in
    let form = c.has_form.ensures.form.0 c.if-not-has_form.false in
    let differs = check_differs text c.check_digit.result (omega arith) (omega arith) form (rw size c.check_digit.ensures) (rw size c.if-ne.ensures) in
    let none : ¬ (IsReferenceText g.row.N text) = λ h. differs h.check in
    record {
      value = reference_read_is g.row.N text (Err CheckDigit) none (size, form, differs);
      ok = none;
      err = (size, form, differs);
    }

pub returns : goal.returns
returns g c =
    let text = c.args.text.now in
    let size = c.if-text.false in
    let form = c.has_form.ensures.form.0 c.if-not-has_form.false in
    let fits = check_fits text c.check_digit.result (omega arith) (omega arith) form (rw size c.check_digit.ensures) (rw size c.if-ne.ensures) in
    let is : IsReferenceText g.row.N text = record { size = size; form = form; check = fits } in
    record {
      value = reference_read_is g.row.N text (Ok c.copy_from_slice.new.self) (is, c.copy_from_slice.ensures.after) tt;
      ok = (is, c.copy_from_slice.ensures.after);
      err = tt;
    }
