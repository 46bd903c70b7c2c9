use Rattle.std.proofs.Common.{◌≡◌, ◌∙◌, Bool, refl}
use Rattle.std.specs.Prelude.{IfOk}
use Rattle.serde_json.proofs.OnLiterals.{serde_json_on_literals}
use Rattle.td_fields.specs.declared.fault.WebFault.TheVariants.{NoMemory}
use Rattle.http_wire.specs.ReplyText.{no_memory_reply}
use Rattle.td_answers.specs.Answers.{fault_reply}
use Rattle.td_answers.proofs.answers.fault_bytes.Goals as goal

pub returns-clause-told : goal.returns-clause-told
unfolding fault_reply
returns-clause-told c =
    let body = c.deref.ensures ∙ c.in_ok-body.ensures in
    rw (c.fault_status_of.ensures, c.allow.ensures, c.stops_after-close.ensures, body) at c.json_reply.ensures

-- where memory is missing, the reply is the fixed one
no_memory_is_fixed : (close : Bool) → fault_reply NoMemory close ≡ no_memory_reply
unfolding fault_reply serde_json_on_literals
no_memory_is_fixed close = refl

pub returns-clause-no_memory : goal.returns-clause-no_memory
returns-clause-no_memory c = λ none.
    let told : IfOk c.json_reply.result (λ v. v.items ≡ fault_reply c.args.fault.now c.args.close) = returns-clause-told c in
    rw (none, no_memory_is_fixed c.args.close) at told
