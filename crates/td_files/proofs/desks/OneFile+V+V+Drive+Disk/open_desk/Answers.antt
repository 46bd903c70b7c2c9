use Rattle.sqlite.specs.Files.{file_state, image_of, over_files}
use Rattle.std.proofs.Common.{inr, subst, sym}
use Rattle.td_store.proofs.Acknowledged.{opens_again}
use Rattle.td_files.specs.Found.{IsFoundIn}
use Rattle.td_files.proofs.Opening.{clean_before, found_there, refused_for}
use Rattle.td_files.proofs.desks.OneFile+V+V+Drive+Disk.open_desk.Goals as goal

pub returns-in-Ok-open-clause-kept : goal.returns-in-Ok-open-clause-kept
returns-in-Ok-open-clause-kept g c =
    let (files, opens, connected) = c.in-Ok.ensures.opened in
    let found = file_state c.in-Ok.conn in
    let desk = file_state c.in-Ok-open.desk in
    let opened = c.in-Ok-open.ensures in (
      files,
      opens,
      λ clean.
          let was = clean_before found desk _ opened.crash clean in
          let is = found_there (image_of g.V.Disk.Disk files) found (connected was).0 (connected was).1 in
          record {
            live = (opened.live clean).1;
            found = subst (IsFoundIn (image_of g.V.Disk.Disk files)) (sym (opened.same clean)) is;
            holds = opened.opened clean;
            country_is = opened.country clean;
            leaves = opened.leaves clean (opened.live clean).1;
          },
    )

pub returns-in-Err-open-clause-refused : goal.returns-in-Err-open-clause-refused
returns-in-Err-open-clause-refused g c =
    let (files, opens, connected) = c.in-Ok.ensures.opened in
    let image = image_of g.V.Disk.Disk files in
    let found = file_state c.in-Ok.conn in
    let refused = c.in-Err-open.refused in
    let told = c.in-Err-open.ensures in
    inr (
      files,
      rw c.turn_away.ensures.drive opens,
      (
        refused.fault,
        c.turn_away.ensures.fault,
        refused.connection,
        c.turn_away.ensures.handed,
        λ clean.
            let was = clean_before found (file_state refused.connection) _ told.crash clean in
            let opened = (connected was).0 in
            refused_for image c.args.country found refused.fault refused.connection
            (found_there image found opened (connected was).1) opened.0.is_open c.in-Ok.ensures.settled told.crash
            told.handed told.settled told.unknown told.earlier told.other told.broken told.sound
            (λ content trees. opens_again over_files c.in-Ok.conn content opened.1 trees) clean,
      ),
    )
