use Rattle.std.proofs.Common.{subst, sym}
use Rattle.sqlite.specs.Files.{image_of}
use Rattle.td_files.specs.Found.{IsClean, IsOpenedDesk}
use Rattle.td_files.proofs.desks.OneFile+V+V+Drive+Disk.connect.Goals as goal

pub returns-in-Ok-clause-kept : goal.returns-in-Ok-clause-kept
returns-in-Ok-clause-kept g c =
    let (files, opens, begins) = c.in-Ok.ensures.kept in (
      files,
      opens,
      subst (λ h. IsClean h → IsOpenedDesk (image_of g.V.Disk.Disk files) c.args.country h) (sym c.close.ensures.same) begins,
    )
