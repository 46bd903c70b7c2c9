use Rattle.std.proofs.Common.{◌∙◌, Err, ap, rules, subst, sym}
use Rattle.std.proofs.lemmas.Result.{IfOk-weaker}
use Rattle.http_header.specs.Token.{IsToken}
use Rattle.td_journal_lines.proofs.Requests.{method_token, not_read}
use Rattle.td_journal_lines.proofs.lines.command_in.Goals as goal

pub returns-in-Err-Invalid-clause-none : goal.returns-in-Err-Invalid-clause-none
returns-in-Err-Invalid-clause-none c = λ none command has back.
    let token : IsToken c.deref.result.now = subst IsToken (sym (c.deref.ensures.value ∙ has.method)) (method_token command) in
    c.from_bytes.ensures.invalid.0 (c.in-Err-Invalid.is ∙ ap Err c.in-Err-Invalid.field-0-is) token

pub returns-clause-none : goal.returns-clause-none
returns-clause-none c =
    IfOk-weaker c.unread.result _ _ (λ found h. λ none command has back.
    not_read c.args.row.now c.in-Ok.method c.in_ok-from_slice.field-0.items c.in_ok-from_slice-2.field-0.items c.read_command.result c.in-Err.fault
    (search rules) (search rules) (search rules) c.read_command.ensures c.in-Err.is h.1 command has back) c.unread.ensures
