use Rattle.std.proofs.Common.{◌≡◌, ◌+◌, ◌-◌, ◌<◌, ◌++◌, ◌∙◌, arith, drop, length, rules, subst, sym, take, ℕ, List, ap}
use Rattle.std.proofs.lemmas.List.{length-take-le, take_at}
use Rattle.std.specs.Prelude.{IsTrue}
use Rattle.sqlite_disk.specs.Disk.{Holds}
use Rattle.td_journal_start.proofs.Held.{held}
use Rattle.td_journal_start.proofs.tail.read_tail.Goals as goal

pub returns-clause-end : goal.returns-clause-end
returns-clause-end g c = λ clean.
    let disk = g.F.Disk in
    let file = disk.seen c.args.file.now in
    let at : ℕ = c.in-Ok.len - c.min-size.result in
    let before : IsTrue (disk.is_clean c.len.new.self) = c.read_at.ensures.clean clean in
    let len : c.in-Ok.len ≡ length file = c.in-Ok.ensures.len before in
    let size : length c.read_at.new.buf ≡ c.min-size.result = search rules in
    let room : length c.read_at.new.buf ≡ c.in_ok-bytes.bytes.len = search rules in
    let items : take c.in_ok-bytes.bytes.len (c.read_at.new.buf ++ drop (length c.read_at.new.buf) c.in_ok-bytes.bytes.items) ≡ c.read_at.new.buf =
    take_at c.read_at.new.buf (drop (length c.read_at.new.buf) c.in_ok-bytes.bytes.items) c.in_ok-bytes.bytes.len room in
    let whole : length file ≡ at + length c.read_at.new.buf = omega (arith, len, size, c.min-size.ensures) in
    let read : 0 < length c.deref_mut.result.now → Holds (disk.seen c.len.new.self) at c.read_at.new.buf = search rules in
    let bytes : 0 < length c.read_at.new.buf → 0 < length c.deref_mut.result.now = λ some. search rules in
    record {
      front = take at file;
      size = length-take-le at file (omega (arith, whole));
      bytes_are = held file c.read_at.new.buf at whole (λ some. subst (λ (f : List ℕ). Holds f at c.read_at.new.buf) c.len.ensures.seen (read (bytes some)))
          ∙ ap (λ (t : List ℕ). take at file ++ t) (sym items);
    }
