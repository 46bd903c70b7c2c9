use Rattle.std.proofs.Common.{inr}
use Rattle.sqlite.specs.Files.{image_of}
use Rattle.td_files.proofs.Copying.{read_from, tables_of}
use Rattle.td_files.proofs.extracts.OneFile+V+V+Drive+Disk.extract.Goals as goal

pub make_part-result-requires-clause-tables : goal.make_part-result-requires-clause-tables
make_part-result-requires-clause-tables g c =
    let (files, opens, begins) = c.in-Ok.ensures.kept in
    tables_of (image_of g.V.Disk.Disk files) c.args.country c.in-Ok.from begins

pub returns : goal.returns
returns g c =
    let (files, opens, begins) = c.in-Ok.ensures.kept in
    inr (
      c.in-Ok.from,
      c.make_part-result.new.from,
      (
        files,
        rw c.hold.ensures.drive opens,
        read_from (image_of g.V.Disk.Disk files) c.args.country c.in-Ok.from begins c.make_part-result.new.from
            c.make_part-result.ensures.looks c.in-Ok.ensures.settled c.make_part-result.ensures.settled c.hold.new.self c.hold.ensures.connection,
      ),
      c.make_part-result.ensures.made,
    )
