use Rattle.std.proofs.Common.{rules}
use Rattle.std.specs.Prelude.{◌↔◌, IsTrue}
use Rattle.td_store_audit_rows.proofs.Rising.{tells_all}
use Rattle.td_store_audit_rows.proofs.scanning.TableScanWalker.see.Goals as goal
use Rattle.td_store_audit_rows.proofs.scanning.TableScanWalker.see.Goals.{else-self, then-self}

pub returns : goal.returns
returns g c = λ rows knew.
    let both : IsTrue c.if-self.self ↔ (IsTrue c.args.self.now.all × g.T.Scanned.AreRead c.args.row.now) = elim c.if-self.branch [
      | then-self w ↦ search rules
      | else-self w ↦ search rules
    ] in
    (c.see.ensures rows knew.0, tells_all g.T.Scanned.AreRead c.args.self.now.all c.if-self.self rows c.args.row.now knew.1 both)
