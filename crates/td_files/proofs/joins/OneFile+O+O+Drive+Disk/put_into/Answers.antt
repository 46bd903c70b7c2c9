use Rattle.std.proofs.Common.{inl, inr, refl}
use Rattle.sqlite.specs.Files.{file_state, image_of}
use Rattle.sqlite.specs.Held.{state}
use Rattle.td_files.specs.Found.{over_file}
use Rattle.td_files.proofs.Copying.{has_joined, has_not_joined, read_from, tables_of}
use Rattle.td_files.proofs.Opening.{clean_before}
use Rattle.td_files.proofs.joins.OneFile+O+O+Drive+Disk.put_into.Goals as goal

pub returns-in-Err-clause-put : goal.returns-in-Err-clause-put
returns-in-Err-clause-put g c = inl (c.in-Err.why, refl, c.in-Err.ensures.refused, refl)

pub join-result-requires-clause-tables : goal.join-result-requires-clause-tables
join-result-requires-clause-tables g c =
    let (files, opens, kept) = c.in-Ok.ensures.kept in
    tables_of (image_of g.O.Disk.Disk files) c.args.country c.in-Ok.from kept

pub returns-in-Ok-result-clause-put : goal.returns-in-Ok-result-clause-put
returns-in-Ok-result-clause-put g c =
    let (files, opens, begins) = c.in-Ok.ensures.kept in
    let after = c.in-Ok-result.ensures in
    let from = file_state c.in-Ok.from in
    let seen = file_state c.join-result.new.from in
    inr (
      c.in-Ok.from,
      c.join-result.new.from,
      (
        files,
        rw c.hold.ensures.drive opens,
        read_from (image_of g.O.Disk.Disk files) c.args.country c.in-Ok.from begins c.join-result.new.from after.looks c.in-Ok.ensures.settled
            after.read_settled c.hold.new.self c.hold.ensures.connection,
      ),
      clean_before (state g.T.Store c.args.to.now) (state g.T.Store c.join-result.new.to) _ after.crash,
      λ clean.
          let is = begins (clean_before from seen _ after.looks.crash clean) in
          has_joined c.args.country (over_file.content c.in-Ok.from) from seen (state g.T.Store c.args.to.now) (state g.T.Store c.join-result.new.to)
          clean is.holds is.country_is after.crash after.shown after.joined after.apart,
    )

pub returns-in-Err-result-clause-put : goal.returns-in-Err-result-clause-put
returns-in-Err-result-clause-put g c =
    let (files, opens, begins) = c.in-Ok.ensures.kept in
    let after = c.in-Err-result.ensures in
    let from = file_state c.in-Ok.from in
    let seen = file_state c.join-result.new.from in
    inr (
      c.in-Ok.from,
      c.join-result.new.from,
      (
        files,
        rw c.hold.ensures.drive opens,
        read_from (image_of g.O.Disk.Disk files) c.args.country c.in-Ok.from begins c.join-result.new.from after.looks c.in-Ok.ensures.settled
            after.read_settled c.hold.new.self c.hold.ensures.connection,
      ),
      clean_before (state g.T.Store c.args.to.now) (state g.T.Store c.join-result.new.to) _ after.crash,
      λ clean.
          let is = begins (clean_before from seen _ after.looks.crash clean) in
          rw c.refused.ensures
          (has_not_joined c.args.country (over_file.content c.in-Ok.from) from seen (state g.T.Store c.args.to.now) (state g.T.Store c.join-result.new.to)
          clean is.holds is.country_is after.crash c.in-Err-result.why after.stands after.err),
    )
