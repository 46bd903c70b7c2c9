use Rattle.std.proofs.Common.{rules}
use Rattle.std.specs.Prelude.{◌↔◌, IsSome, IsTrue}
use Rattle.td_store_audit_rows.proofs.Rising.{tells_next}
use Rattle.td_store_audit_rows.proofs.ids.RisingIdsWalker.see.Goals as goal
use Rattle.td_store_audit_rows.proofs.ids.RisingIdsWalker.see.Goals.{else-self, then-self}

pub returns : goal.returns
returns c = λ rows knew.
    let both : IsTrue c.if-self.self ↔ (IsTrue c.args.self.now.rise × IsSome c.next_id-self.result) = elim c.if-self.branch [
      | then-self w ↦ search rules
      | else-self w ↦ search rules
    ] in
    tells_next c.args.self.now.rise c.if-self.self c.args.self.now.last c.next_id-self.result rows c.args.row.now knew
    c.next_id-self.ensures.some c.next_id-self.ensures.none both
