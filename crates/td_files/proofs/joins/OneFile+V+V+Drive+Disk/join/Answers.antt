use Rattle.std.proofs.Common.{inr}
use Rattle.td_files.proofs.joins.OneFile+V+V+Drive+Disk.join.Goals as goal

pub returns : goal.returns
returns g c =
    let (files, opens, begins) = c.in-Ok.ensures.kept in
    inr (
      c.in-Ok.to,
      c.put_into-result.new.to,
      c.hold.ensures.connection,
      c.put_into-result.ensures.settled,
      (files, rw c.hold.ensures.drive opens, begins),
      c.put_into-result.ensures.put,
    )
