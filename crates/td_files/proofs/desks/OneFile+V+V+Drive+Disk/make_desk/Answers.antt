use Rattle.std.proofs.Common.{inr, subst, sym}
use Rattle.sqlite.specs.Files.{file_state, image_of}
use Rattle.td_store_rows.specs.StoreTables.{HoldsContent}
use Rattle.td_model.specs.Content.{empty_content}
use Rattle.td_store_write.specs.Created.{MayLeaveEmpty}
use Rattle.td_files.proofs.Opening.{blank_then, clean_before, found_there, unmade_for}
use Rattle.td_files.proofs.desks.OneFile+V+V+Drive+Disk.make_desk.Goals as goal

pub returns-in-Ok-create-clause-made : goal.returns-in-Ok-create-clause-made
returns-in-Ok-create-clause-made g c =
    let (files, opens, connected) = c.in-Ok.ensures.opened in
    let found = file_state c.in-Ok.conn in
    let desk = file_state c.in-Ok-create.desk in
    let made = c.in-Ok-create.ensures in (
      files,
      opens,
      λ clean.
          let was = clean_before found desk _ made.crash clean in
          record {
            live = (made.live clean).1;
            before = found.now;
            found = found_there (image_of g.V.Disk.Disk files) found (connected was).0 (connected was).1;
            blank = blank_then found.now (λ taken. made.taken taken);
            schema = made.schema clean;
            empty = made.empty clean;
            holds = subst (λ x. HoldsContent x desk) (sym (made.empty clean)) (made.made clean);
            leaves = made.leaves clean (made.live clean).1;
          },
    )

pub returns-in-Err-create-clause-refused : goal.returns-in-Err-create-clause-refused
returns-in-Err-create-clause-refused g c =
    let (files, opens, connected) = c.in-Ok.ensures.opened in
    let image = image_of g.V.Disk.Disk files in
    let found = file_state c.in-Ok.conn in
    let refused = c.in-Err-create.refused in
    let told = c.in-Err-create.ensures in
    inr (
      files,
      rw c.turn_away.ensures.drive opens,
      (
        refused.fault,
        c.turn_away.ensures.fault,
        refused.connection,
        c.turn_away.ensures.handed,
        λ clean.
            let was = clean_before found (file_state refused.connection) _ told.crash clean in
            let opened = (connected was).0 in
            unmade_for image (empty_content c.args.country) (MayLeaveEmpty c.args.country found) c.in-Ok.conn refused.connection refused.fault
            (found_there image found opened (connected was).1) opened.0.is_open c.in-Ok.ensures.settled told.crash
            (λ trees may. may.1)
            told.same told.settled told.fault told.taken clean,
      ),
    )
