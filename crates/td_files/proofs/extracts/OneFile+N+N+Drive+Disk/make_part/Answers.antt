use Rattle.std.proofs.Common.{inr, refl}
use Rattle.sqlite.specs.Files.{file_state, image_of}
use Rattle.sqlite.specs.Held.{state}
use Rattle.td_extract.specs.Between.{content_between}
use Rattle.td_extract.specs.Extracted.{MayLeaveExtract}
use Rattle.td_files.proofs.Copying.{shows_made}
use Rattle.td_files.proofs.Opening.{clean_before, found_there, unmade_for}
use Rattle.td_files.proofs.extracts.OneFile+N+N+Drive+Disk.make_part.Goals as goal

pub returns-in-Ok-result-clause-made : goal.returns-in-Ok-result-clause-made
returns-in-Ok-result-clause-made g c =
    let (files, opens, connected) = c.in-Ok.ensures.opened in (
      files,
      rw c.hold.ensures.drive opens,
      (
        c.extract-result.new.to,
        c.hold.ensures.connection,
        λ clean seen whole holds at.
            let found = file_state c.in-Ok.conn in
            let after = c.in-Ok-result.ensures in
            let may = MayLeaveExtract c.args.country c.args.first c.args.last (state g.S.Store c.args.from.now) (state g.S.Store c.extract-result.new.from) found in
            let was = clean_before found (file_state c.extract-result.new.to) may after.crash clean in
            shows_made (image_of g.N.Disk.Disk files) found c.extract-result.new.to (content_between c.args.first c.args.last whole)
            (found_there (image_of g.N.Disk.Disk files) found (connected was).0 (connected was).1) after.empty (after.shown clean).1
            (after.schema seen clean whole holds at after.empty) (after.extracted seen clean whole holds at after.empty) after.settled,
      ),
    )

pub returns-in-Err-result-clause-made : goal.returns-in-Err-result-clause-made
returns-in-Err-result-clause-made g c =
    let (files, opens, connected) = c.in-Ok.ensures.opened in
    inr (
      files,
      rw c.hold.ensures.drive opens,
      (
        c.refused.result,
        refl,
        c.extract-result.new.to,
        c.hold.ensures.connection,
        λ clean seen whole holds at.
            let found = file_state c.in-Ok.conn in
            let after = c.in-Err-result.ensures in
            let may = MayLeaveExtract c.args.country c.args.first c.args.last (state g.S.Store c.args.from.now) (state g.S.Store c.extract-result.new.from) found in
            let was = clean_before found (file_state c.extract-result.new.to) may after.crash clean in
            let opened = (connected was).0 in
            unmade_for (image_of g.N.Disk.Disk files) (content_between c.args.first c.args.last whole) may c.in-Ok.conn c.extract-result.new.to c.refused.result
            (found_there (image_of g.N.Disk.Disk files) found opened (connected was).1) opened.0.is_open c.in-Ok.ensures.settled after.crash
            (λ trees left. left.1 seen whole holds at) after.err after.settled c.refused.ensures.cause
            (λ some. let told = after.taken some in (c.refused.ensures.store (let same = told.0 in cc), told.2)) clean,
      ),
    )
