use Rattle.std.proofs.Common.{refl}
use Rattle.sqlite.specs.Files.{image_of}
use Rattle.td_cli.proofs.Desks.{kept_ready, made_ready}
use Rattle.td_cli.proofs.at_desk.JobContext+M+V+O+R+W+E.at_desk.Goals as goal

pub returns-in-Ok-open_desk-clause-done : goal.returns-in-Ok-open_desk-clause-done
returns-in-Ok-open_desk-clause-done g c =
    let opened = c.in-Ok-open_desk.desk in
    let (files, opens, kept) = c.in-Ok-open_desk.ensures.kept in
    let done = c.over_file.ensures.done (kept_ready (image_of g.V.Disk.Disk files) c.args.office.country opened kept) in
    rw c.in-File.is (opened, done.0, done.1, done.2, (files, rw c.over_file.ensures.drive (rw c.deref.ensures at opens), kept), done.3)

pub returns-in-Ok-make_desk-clause-done : goal.returns-in-Ok-make_desk-clause-done
returns-in-Ok-make_desk-clause-done g c =
    let opened = c.in-Ok-make_desk.desk in
    let (files, opens, made) = c.in-Ok-make_desk.ensures.made in
    let done = c.over_file-in-Ok-make_desk.ensures.done (made_ready (image_of g.V.Disk.Disk files) c.args.office.country opened made) in
    rw c.in-NewFile.is (opened, done.0, done.1, done.2, (files, rw c.over_file-in-Ok-make_desk.ensures.drive (rw c.deref-in-NewFile.ensures at opens), made), done.3)

pub returns-in-Err-open_desk-clause-done : goal.returns-in-Err-open_desk-clause-done
returns-in-Err-open_desk-clause-done g c = rw c.in-File.is ((refl, refl, refl), rw c.deref.ensures at c.in-Err-open_desk.ensures.refused)

pub returns-in-Err-make_desk-clause-done : goal.returns-in-Err-make_desk-clause-done
returns-in-Err-make_desk-clause-done g c = rw c.in-NewFile.is ((refl, refl, refl), rw c.deref-in-NewFile.ensures at c.in-Err-make_desk.ensures.refused)
