use Rattle.std.proofs.Common.{◌≡◌, ℕ, ◌-◌, ◌<◌, List, [], ◌++◌, length, ap, arith, inl, inr, refl, rules, sym, ◌∙◌, append-nil}
use Rattle.std.proofs.lemmas.List.{nil_from_length}
use Rattle.http_wire.proofs.Readings.{joined, reads_none, reads_more, reads_end, reads_fault, room_first, room_on}
use Rattle.http_wire.specs.Input.{unread, room_of}
use Rattle.http_wire.specs.Reading.{KeepsRoom}
use Rattle.http_wire.specs.Wire.{IsOpen}
use Rattle.http_wire.proofs.reading.read_up_to.Given.{Over}
use Rattle.http_wire.proofs.reading.read_up_to.Goals as goal
use Rattle.http_wire.proofs.reading.read_up_to.Goals.{In-Ok}

-- what stands before a read is no whole request yet
open_here : (g : Over) (c : In-Ok g) → IsOpen (unread c.args.input.now ++ c.loop-wanted.invariant.0)
open_here g c =
    let below = c.loop-wanted-test.true in
    let len = c.len.ensures in
    let stands = ap length c.loop-wanted.invariant.2 in
    c.requires.wanted.still c.loop-wanted.invariant.0 (omega arith)

-- the room after a read
room_here : (g : Over) (c : In-Ok g)
    → KeepsRoom (room_of c.args.input.now) (room_of c.fill.new.self) c.args.reads.now (c.loop-wanted.reads - 1)
room_here g c =
    let inv = c.loop-wanted.invariant in
    room_on _ _ _ _ _ _ inv.1.read.spent (omega arith) inv.4 (record { kept = c.in-Ok.ensures.grown; whole = λ _. c.in-Ok.ensures.room })

pub loop-wanted-init : goal.loop-wanted-init
loop-wanted-init g c = (
  [],
  reads_none _ _ _ _,
  sym (append-nil (unread c.args.input.now)),
  inl refl,
  room_first _ _,
)

pub loop-wanted-preserved : goal.loop-wanted-preserved
loop-wanted-preserved g c =
    let inv = c.loop-wanted.invariant in
    let read = c.in-Ok.ensures.read in
    let spent = inv.1.read.spent in
    let some : 0 < c.loop-wanted.reads = let no = c.if-reads-eq0.false in omega arith in
    let brings = rw c.in-Bytes.is at read.gives in (
      inv.0 ++ read.given,
      reads_more _ _ _ _ _ _ _ _ _ inv.1 some brings (open_here g (goal.at.loop-wanted-preserved g c).In-Ok),
      joined _ _ _ _ _ inv.2 read.appended,
      inr (omega arith),
      room_here g (goal.at.loop-wanted-preserved g c).In-Ok,
    )

pub returns-in-Fault-clause-read : goal.returns-in-Fault-clause-read
returns-in-Fault-clause-read g c =
    let inv = c.loop-wanted.invariant in
    let fault = rw c.in-Fault.is at c.in-Ok.ensures.read.gives in
    let spent = inv.1.read.spent in
    let some : 0 < c.loop-wanted.reads = let no = c.if-reads-eq0.false in omega arith in
    (inv.0, reads_fault _ _ _ _ _ _ _ _ inv.1 some fault.1, (open_here g (goal.at.returns-in-Fault-clause-read g c).In-Ok, fault.1.how, omega arith))

pub returns-in-End-clause-read : goal.returns-in-End-clause-read
returns-in-End-clause-read g c =
    let inv = c.loop-wanted.invariant in
    let end = rw c.in-End.is at c.in-Ok.ensures.read.gives in
    let spent = inv.1.read.spent in
    let some : 0 < c.loop-wanted.reads = let no = c.if-reads-eq0.false in omega arith in
    let stands : unread c.fill.new.self ≡ unread c.args.input.now ++ inv.0 =
    c.in-Ok.ensures.read.appended ∙ (ap (λ (b : List ℕ). unread c.loop-wanted.input ++ b) end.0 ∙ (append-nil (unread c.loop-wanted.input) ∙ inv.2)) in
    let short : length (unread c.fill.new.self) ≡ 0 = search rules in
    let none = nil_from_length (unread c.fill.new.self) short in
    (inv.0, reads_end _ _ _ _ _ _ _ _ inv.1 some end.1 end.2, (sym stands ∙ none, record { end = end.2; read = omega arith }))

pub returns-in-End-2-clause-read : goal.returns-in-End-2-clause-read
returns-in-End-2-clause-read g c =
    let inv = c.loop-wanted.invariant in
    let end = rw c.in-End.is at c.in-Ok.ensures.read.gives in
    let spent = inv.1.read.spent in
    let some : 0 < c.loop-wanted.reads = let no = c.if-reads-eq0.false in omega arith in
    let stands : unread c.fill.new.self ≡ unread c.args.input.now ++ inv.0 =
    c.in-Ok.ensures.read.appended ∙ (ap (λ (b : List ℕ). unread c.loop-wanted.input ++ b) end.0 ∙ (append-nil (unread c.loop-wanted.input) ∙ inv.2)) in
    let left : 0 < length (unread c.fill.new.self) = search rules in
    (inv.0, reads_end _ _ _ _ _ _ _ _ inv.1 some end.1 end.2, (rw (sym stands) left, open_here g (goal.at.returns-in-End-2-clause-read g c).In-Ok, record { end = end.2; read = omega arith }))
