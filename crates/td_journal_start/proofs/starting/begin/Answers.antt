use Rattle.std.proofs.Common.{◌≡◌, inr, length, refl, rules, subst, take}
use Rattle.std.proofs.lemmas.Result.{err_from_is_err_and}
use Rattle.std.specs.Prelude.{IsTrue}
use Rattle.sqlite_disk.specs.Disk.{MoreFaults}
use Rattle.td_journal_start.specs.Rows.{last_seen}
use Rattle.td_journal_start.specs.Tails.{IsFound}
use Rattle.td_journal_start.proofs.Cutting.{cut_text, kept_text, refused_at}
use Rattle.td_journal_start.proofs.starting.begin.Goals as goal

pub returns-in_default-clause-refused : goal.returns-in_default-clause-refused
returns-in_default-clause-refused g c =
    (record { desk_is = refl; file_is = c.find_last.ensures.file }, λ clean text last journal. c.in_ok-found.ensures.none clean c.in_default.is text last journal)

pub returns-in_err-take_last-clause-refused : goal.returns-in_err-take_last-clause-refused
returns-in_err-take_last-clause-refused g c =
    let disk = g.F.Disk in
    let file = c.args.file.now in
    let found = c.in-Some.found in
    let is : IsTrue (disk.is_clean c.find_last.new.file) → IsFound (disk.seen file) found = search rules in
    let told = err_from_is_err_and c.from_residual-in_err-take_last.result c.from_residual-in_err-take_last.ensures.1 in
    rw (told.1, told.2)
    (refused_at g.D.Desk.seen disk c.args.desk.now c.take_last.new.desk file c.find_last.new.file (take found.end (disk.seen file)) (last_seen found.last)
    c.in_err-take_last.field-0.0 c.find_last.ensures.file (λ clean. (is clean).journal) c.in_err-take_last.ensures.refused)

pub returns-then-is_err-clause-refused : goal.returns-then-is_err-clause-refused
returns-then-is_err-clause-refused g c =
    let disk = g.F.Disk in
    let file = c.args.file.now in
    let mid = c.find_last.new.file in
    let left = c.cut_to.new.file in
    let found = c.in-Some.found in
    let is : IsTrue (disk.is_clean mid) → IsFound (disk.seen file) found = search rules in
    let failed : MoreFaults (disk.faults mid) (disk.faults left) = search rules in
    inr (inr (record {
      last = last_seen found.last;
      desk_is = c.in_ok-take_last.ensures.taken;
      failed = inr (subst (λ n. MoreFaults n (disk.faults left)) c.in_ok-found.ensures.faults failed);
      kept = λ clean. kept_text disk file mid left found c.find_last.ensures.file (is (c.cut_to.ensures.clean clean)) c.cut_to.ensures.cut c.cut_to.ensures.crash;
      clean = λ clean. c.find_last.ensures.file.clean (c.cut_to.ensures.clean clean);
    }))

pub returns-clause-begun : goal.returns-clause-begun
returns-clause-begun g c =
    let disk = g.F.Disk in
    let file = c.args.file.now in
    let mid = c.find_last.new.file in
    let left = c.cut_to.new.file in
    let found = c.in-Some.found in
    let is : IsTrue (disk.is_clean mid) → IsFound (disk.seen file) found = search rules in
    let size : length (disk.seen left) ≡ found.end = search rules in
    record {
      next = search rules;
      desk_is = c.in_ok-take_last.ensures.taken;
      text = λ clean. cut_text disk file mid left found c.find_last.ensures.file (is (c.cut_to.ensures.clean clean)) c.cut_to.ensures.cut size;
      clean = λ clean. c.find_last.ensures.file.clean (c.cut_to.ensures.clean clean);
      size = size;
      durable = search rules;
    }
