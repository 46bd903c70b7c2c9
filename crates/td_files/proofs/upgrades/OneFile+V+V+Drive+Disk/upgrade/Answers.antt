use Rattle.std.proofs.Common.{inl, inr}
use Rattle.sqlite.specs.Files.{file_state, image_of}
use Rattle.td_files.proofs.Opening.{clean_before, found_there, shows_upgrade}
use Rattle.td_files.proofs.upgrades.OneFile+V+V+Drive+Disk.upgrade.Goals as goal

pub returns-in-Ok-result : goal.returns-in-Ok-result
returns-in-Ok-result g c =
    let (files, opens, connected) = c.in-Ok.ensures.opened in (
      files,
      rw c.hold.ensures.drive opens,
      (
        c.upgrade-result.new.conn,
        c.hold.ensures.connection,
        λ clean.
            let found = file_state c.in-Ok.conn in
            let after = c.in-Ok-result.ensures in
            let was = clean_before found (file_state c.upgrade-result.new.conn) _ after.crash clean in
            let opened = (connected was).0 in
            shows_upgrade (image_of g.V.Disk.Disk files) found c.upgrade-result.new.conn _
            (found_there (image_of g.V.Disk.Disk files) found opened (connected was).1)
            opened.0.is_open c.in-Ok.ensures.settled (λ whole. (after.shown whole).1) after.told after.left after.reached after.settled clean,
      ),
    )

pub returns-in-Err-result : goal.returns-in-Err-result
returns-in-Err-result g c =
    let (files, opens, connected) = c.in-Ok.ensures.opened in
    inr (
      c.in-Err-result.why,
      c.refused.ensures,
      (
        files,
        rw c.hold.ensures.drive opens,
        (
          c.upgrade-result.new.conn,
          c.hold.ensures.connection,
          λ clean.
              let found = file_state c.in-Ok.conn in
              let after = c.in-Err-result.ensures in
              let was = clean_before found (file_state c.upgrade-result.new.conn) _ after.crash clean in
              let opened = (connected was).0 in
              shows_upgrade (image_of g.V.Disk.Disk files) found c.upgrade-result.new.conn _
              (found_there (image_of g.V.Disk.Disk files) found opened (connected was).1)
              opened.0.is_open c.in-Ok.ensures.settled (λ whole. tt) after.told after.left after.reached after.settled clean,
        ),
      ),
    )

pub returns-in-Err : goal.returns-in-Err
returns-in-Err g c = inl c.in-Err.ensures.unopened
