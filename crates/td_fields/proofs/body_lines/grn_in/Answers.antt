use Rattle.std.proofs.Common.{List, ℕ, ap, ◌∙◌}
use Rattle.std.specs.Result.{result_ok}
use Rattle.td_base.specs.References.{grn_read}
use Rattle.td_fields.proofs.MemberFacts.{read_of}
use Rattle.td_fields.proofs.body_lines.grn_in.Goals as goal

pub returns : goal.returns
returns c =
    read_of (λ (text : List ℕ). result_ok (grn_read text)) _ _ _ c.in_ok-text.ensures (c.ok.ensures.value ∙ ap result_ok (rw c.as_bytes.ensures.value at c.read.ensures.value))
