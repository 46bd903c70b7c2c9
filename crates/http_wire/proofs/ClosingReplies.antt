-- What each stop of the reading says of the stream.
use Rattle.std.proofs.Common.{◌≡◌, ◌≢◌, ℕ, ◌+◌, ◌-◌, ◌<◌, Bool, true, false, List, [], ◌++◌, ◌⊎◌, Option, arith, refl, ap, inl, inr, subst, sym, ◌∙◌}
use Rattle.std.proofs.lemmas.Bool.{cases_lt}
use Rattle.counted_io.specs.declared.counted.Counted.{Counted}
use Rattle.counted_io.specs.Chains.{Wrote, IsCutShort}
use Rattle.counted_io.proofs.Chaining.{wrote_nothing, wrote_on, wrote_appends}
use Rattle.http_wire.specs.declared.input.TheConstants.{MOST}
use Rattle.http_wire.specs.declared.reading.StopCause.{StopCause}
use Rattle.http_wire.specs.declared.reading.StopCause.TheVariants as stop
use Rattle.http_wire.specs.declared.stream.StreamEnd.{StreamEnd}
use Rattle.http_wire.specs.declared.stream.StreamEnd.TheVariants.{Closed, Refused, Cut, ReadsSpent, ReadFault, WriteFault, Failed}
use Rattle.http_wire.specs.ReplyText.{is_made}
use Rattle.http_wire.specs.Reading.{Finish, HasRead, ReadsOn, StopsAs, brought, ended, failed, finish_of}
use Rattle.http_wire.specs.Replies.{HoldsOrSends, SendsBefore}
use Rattle.http_wire.specs.Wire.{BeginsServed}
use Rattle.http_wire.specs.ClosingReply.{SendsLast, ClosingReply, SendsAndParts}
use Rattle.http_wire.specs.Stream.{replies_of, Ending, silence, refusal, to_head, no_memory, ending_bytes, IsEnding, MissesMemory, finish_at, is_all_written, Sides, Run, WentOn, EndsAs}
use Rattle.http_wire.proofs.Needs.{called_for}
use Rattle.http_wire.proofs.Readings.{HasRead-trans}
use Rattle.http_wire.proofs.Ends.{cut_between}
use Rattle.http_wire.proofs.Sending.{wrote_made, wrote_none, sends_on, cuts_on, cut_nothing}
use Rattle.http_wire.proofs.Serving.{Words, IsServed, Serving, Gathering, all_sent, no_pieces, Splits-more}

-- the run that ends after some more bytes, with so much written of what parts with them
abbrev run_after : {R W C H : Type 0} {k : Words R W C H}
    {old now : Sides R W C H} {unread : List ℕ} {room left served : ℕ}
    → Serving k old now unread room left served → List (List ℕ) → List ℕ → ℕ → Ending → List ℕ → Run H
run_after {now = now} {unread = unread} s pieces more fewer ending tail =
    record { given = s.given ++ more; exchanges = s.exchanges; rest = unread ++ more; handler = now.handler; ending = ending; written = replies_of s.exchanges ++ tail; reads = 100000 - fewer; pieces = s.read.pieces ++ pieces }

-- the stream, where its end is known
finish : {R W C H : Type 0} {k : Words R W C H}
    {old now : Sides R W C H} {unread : List ℕ} {room left served : ℕ} → (s : Serving k old now unread room left served) → served < 1000
    → (end : StreamEnd) (reader : Counted R) (more : List ℕ) (fewer : ℕ) → (reads : ReadsOn k.remaining now.reader reader unread more left fewer (finish_at end))
    → (writer : Counted W) (handler : H) (ending : Ending) → IsEnding k.heads now.handler handler (unread ++ more) ending
    → MissesMemory ending (100000 - fewer) (unread ++ more)
    → (tail : List ℕ) → Wrote k.contents now.writer writer tail (is_all_written end) → (end ≢ WriteFault → tail ≡ ending_bytes ending)
    → EndsAs k.remaining old (record { reader = reader; writer = writer; clock = now.clock; handler = handler }) (run_after s reads.read.pieces more fewer ending tail) end
    → IsServed k old (record { reader = reader; writer = writer; clock = now.clock; handler = handler }) end
unfolding HasRead-trans
finish {k = k} {old = old} {now = now} {unread = unread} s few end reader more fewer reads writer handler ending parts memory tail sent whole ends =
    let read = HasRead-trans _ _ _ _ _ _ _ _ _ _ s.read reads.read in
    let count = s.count in
    let wrote = wrote_on k.contents old.writer now.writer writer (replies_of s.exchanges) tail (is_all_written end) s.wrote sent in
    record {
      run = run_after s reads.read.pieces more fewer ending tail;
      consumed = read.consumed;
      reading = Splits-more s.given more unread _ s.reading;
      at_most = omega arith;
      chain = s.chain;
      ending = parts;
      appended = wrote_appends k.contents old.writer writer (replies_of s.exchanges ++ tail) (is_all_written end) wrote;
      whole = λ other. ap (λ (b : List ℕ). replies_of s.exchanges ++ b) (whole other);
      counted = read.counted;
      reads_at_most = omega arith;
      given_is = read.given_is;
      reads_are = read.count;
      read = read.reads;
      needed = called_for s.read.pieces reads.read.pieces unread more s.over reads.needed reads.read.given_is;
      wrote = wrote;
      memory = memory;
      ends = ends;
    }

-- a message of some kind was written last, or cut short
sent_last : {R W C H : Type 0} {k : Words R W C H}
    {old now : Sides R W C H} {unread : List ℕ} {room left served : ℕ} → (s : Serving k old now unread room left served) → served < 1000
    → (good end : StreamEnd) (reader : Counted R) (more : List ℕ) (fewer : ℕ) → (reads : ReadsOn k.remaining now.reader reader unread more left fewer (finish_at good))
    → (writer : Counted W) (handler : H) (ending : Ending) → IsEnding k.heads now.handler handler (unread ++ more) ending
    → MissesMemory ending (100000 - fewer) (unread ++ more)
    → finish_at good ≡ brought → is_all_written good ≡ true
    → EndsAs k.remaining old (record { reader = reader; writer = writer; clock = now.clock; handler = handler }) (run_after s reads.read.pieces more fewer ending (ending_bytes ending)) good
    → SendsLast k.contents now.writer writer (ending_bytes ending) good end
    → IsServed k old (record { reader = reader; writer = writer; clock = now.clock; handler = handler }) end
sent_last {k = k} {now = now} s few good end reader more fewer reads writer handler ending parts memory brings whole other (inl h) =
    rw h.0 (finish s few good reader more fewer reads writer handler ending parts memory _
    (subst (λ (b : Bool). Wrote k.contents now.writer writer (ending_bytes ending) b) (sym whole) h.1) (λ _. refl) other)
sent_last {k = k} {now = now} {unread = unread} {left = left} s few good end reader more fewer reads writer handler ending parts memory brings whole other (inr h) =
    let count = s.count in
    rw h.0 (finish s few WriteFault reader more fewer (subst (λ (f : Finish). ReadsOn k.remaining now.reader reader unread more left fewer f) brings reads)
    writer handler ending parts memory _ h.1.wrote (λ no. absurd (no refl)) (
      h.1.failed,
      wrote_made k.contents _ _ _ false (wrote_on k.contents _ _ _ _ _ false s.wrote h.1.wrote),
      inr (record {
        on = record { each = s.each; few = omega arith };
        breaks = record { taken = h.1.taken; short = h.1.short; is = refl };
      }),
    ))

-- what is left of the stream, and how it ends, for each stop of the reading itself, where no reply waits
parted : {R W C H : Type 0} {k : Words R W C H}
    {old now : Sides R W C H} {unread : List ℕ} {room left served : ℕ} → Serving k old now unread room left served → served < 1000
    → (why : StopCause) → why ≢ stop.WriteFault → (reader : Counted R) (more : List ℕ) (fewer : ℕ) → ReadsOn k.remaining now.reader reader unread more left fewer (finish_of why)
    → (writer : Counted W) (handler : H) (end : StreamEnd) → StopsAs k.remaining reader left fewer room (unread ++ more) why
    → ClosingReply k.contents k.heads now.writer writer now.handler handler why end
    → IsServed k old (record { reader = reader; writer = writer; clock = now.clock; handler = handler }) end
parted {k = k} {now = now} s few stop.Closed other reader more fewer reads writer handler end why f =
    let spent = s.read.spent in
    let read = why.1.read in
    let count = s.count in
    rw (f.0, f.1, f.2) (finish s few Closed reader more fewer reads now.writer now.handler silence refl tt [] (wrote_nothing k.contents now.writer) (λ _. refl)
    (record { on = record { each = s.each; few = omega arith }; silent = refl; end = why.1.end; read = omega arith }, why.0))
parted {k = k} {now = now} s few stop.Cut other reader more fewer reads writer handler end why f =
    let spent = s.read.spent in
    let read = why.2.read in
    let count = s.count in
    rw (f.0, f.1, f.2) (finish s few Cut reader more fewer reads now.writer now.handler silence refl tt [] (wrote_nothing k.contents now.writer) (λ _. refl) (
      record { on = record { each = s.each; few = omega arith }; silent = refl; end = why.2.end; read = omega arith },
      record { on = record { each = s.each; few = omega arith }; silent = refl; still = why.1 },
      why.0,
    ))
parted {k = k} {now = now} s few stop.ReadsSpent other reader more fewer reads writer handler end why f =
    let none = why.1 in
    let count = s.count in
    rw (f.0, f.1, f.2) (finish s few ReadsSpent reader more fewer reads now.writer now.handler silence refl tt [] (wrote_nothing k.contents now.writer) (λ _. refl)
    (record { on = record { each = s.each; few = omega arith }; silent = refl; still = why.0 }, omega arith))
parted {k = k} {now = now} s few stop.ReadFault other reader more fewer reads writer handler end why f =
    let spent = s.read.spent in
    let read = why.2 in
    let count = s.count in
    rw (f.0, f.1, f.2) (finish s few ReadFault reader more fewer reads now.writer now.handler silence refl tt [] (wrote_nothing k.contents now.writer) (λ _. refl)
    (record { on = record { each = s.each; few = omega arith }; silent = refl; still = why.0 }, why.1, omega arith))
parted {unread = unread} {room = room} {left = left} s few stop.NoMemory other reader more fewer reads writer handler end why f =
    let count = s.count in
    sent_last s few Failed end reader more fewer reads writer handler no_memory (f.1, missed why) (misses why) refl refl
    (inr (record { each = s.each; few = omega arith }, tt)) f.0
  where
    missed : ((unread ++ more ≡ []) × (fewer ≡ left) × (room < MOST)) ⊎ BeginsServed (unread ++ more) → (unread ++ more ≡ []) ⊎ BeginsServed (unread ++ more)
    missed (inl h) = inl h.0
    missed (inr h) = inr h

    misses : ((unread ++ more ≡ []) × (fewer ≡ left) × (room < MOST)) ⊎ BeginsServed (unread ++ more) → (100000 - fewer ≡ 0) ⊎ BeginsServed (unread ++ more)
    misses (inl h) =
        let same = h.1 in
        let small = h.2 in
        elim (cases_lt left 100000) [ inl lt ↦ (let large = s.roomy lt in absurd (let never : ⊥ = omega arith in never)) | inr ge ↦ inl (omega arith) ]
    misses (inr h) = inr h
parted s few (stop.Refused e) other reader more fewer reads writer handler end why f =
    let count = s.count in
    sent_last s few Refused end reader more fewer reads writer handler (refusal e) (f.1, why) tt refl refl
    (record { each = s.each; few = omega arith }, tt) f.0
parted {k = k} {old = old} {now = now} s few (stop.Head target) other reader more fewer reads writer handler end why f =
    let count = s.count in
    let on : WentOn s.exchanges = record { each = s.each; few = omega arith } in
    by_reply on (is_made f.0) refl
  where
    by_reply : WentOn s.exchanges → (made : Bool) → is_made f.0 ≡ made
        → IsServed k old (record { reader = reader; writer = writer; clock = now.clock; handler = handler }) end
    by_reply on true made =
        sent_last s few Refused end reader more fewer reads writer handler (to_head target.items f.0) (f.1, why) tt refl refl
        (on, made) (rw made at f.2)
    by_reply on false made =
        sent_last s few Failed end reader more fewer reads writer handler (to_head target.items f.0) (f.1, why) tt refl refl
        (inr (on, made)) (rw made at f.2)
parted s few stop.WriteFault other reader more fewer reads writer handler end why f = absurd (other refl)

-- where no read was made, the reader is as it was
still_reader : {R : Type 0} (remaining : R → Option (List ℕ)) (old new : Counted R) (given : List ℕ) (x y : ℕ) (finish : Finish)
    → HasRead remaining old new given x y finish → y ≡ x → new ≡ old
still_reader remaining old new given x y brought h same = h.reads.last ∙ sym (rw (no_pieces h.pieces x y h.count same) at h.reads.brought)
still_reader remaining old new given x y ended h same = let count = h.count in absurd (let never : ⊥ = omega arith in never)
still_reader remaining old new given x y failed h same = let count = h.count in absurd (let never : ⊥ = omega arith in never)

-- no read was made, and the replies that wait were cut short
cut_here : {R W C H : Type 0} {k : Words R W C H}
    {old now : Sides R W C H} {unread waits : List ℕ} {room left served : ℕ} → Gathering k old now unread waits room left served → served < 1000
    → (reader : Counted R) (more : List ℕ) (fewer : ℕ) (finish : Finish) → HasRead k.remaining now.reader reader more left fewer finish → fewer ≡ left
    → (writer : Counted W) (handler : H) → IsCutShort k.contents now.writer writer waits → handler ≡ now.handler
    → IsServed k old (record { reader = reader; writer = writer; clock = now.clock; handler = handler }) WriteFault
cut_here {k = k} {now = now} {left = left} s few reader more fewer finish reads same writer handler cut still =
    rw (still_reader k.remaining now.reader reader more left fewer finish reads same, still) (cut_between s (omega arith) writer cut)

-- what is left of the stream where replies wait, or were written before a read
parted_after : {R W C H : Type 0} {k : Words R W C H}
    {old now : Sides R W C H} {unread waits : List ℕ} {room left served : ℕ} → Gathering k old now unread waits room left served → served < 1000
    → (why : StopCause) → why ≢ stop.WriteFault → (reader : Counted R) (more : List ℕ) (fewer : ℕ) → ReadsOn k.remaining now.reader reader unread more left fewer (finish_of why)
    → StopsAs k.remaining reader left fewer room (unread ++ more) why
    → (mid : Counted W) (kept : List ℕ) → HoldsOrSends k.contents now.writer mid waits kept left fewer
    → (writer : Counted W) (handler : H) (end : StreamEnd) → SendsAndParts k.contents k.heads (mid, now.handler) (writer, handler) kept why end
    → IsServed k old (record { reader = reader; writer = writer; clock = now.clock; handler = handler }) end
parted_after {k = k} {now = now} {waits = waits} {left = left} s few why other reader more fewer reads stops mid kept sending writer handler end (inl parts) =
    parted (all_sent s parts.0 (sends_on k.contents now.writer mid parts.0 waits kept left fewer sending parts.1)) few why other reader more fewer reads
    writer handler end stops parts.2
parted_after {k = k} {now = now} {waits = waits} {left = left} s few why other reader more fewer reads stops mid kept sending writer handler end (inr cut) =
    let short = cuts_on k.contents now.writer mid writer waits kept left fewer sending cut.1 in
    rw cut.0 (cut_here s few reader more fewer (finish_of why) reads.read short.1 writer handler short.0 cut.2)

-- what is left of the stream, and how it ends
pub stopped : {R W C H : Type 0} {k : Words R W C H}
    {old now : Sides R W C H} {unread waits : List ℕ} {room left served : ℕ} → Gathering k old now unread waits room left served → served < 1000
    → (why : StopCause) (reader : Counted R) (more : List ℕ) (fewer : ℕ) → ReadsOn k.remaining now.reader reader unread more left fewer (finish_of why)
    → StopsAs k.remaining reader left fewer room (unread ++ more) why
    → (mid : Counted W) (kept : List ℕ) → SendsBefore k.contents now.writer mid waits kept left fewer why
    → (writer : Counted W) (handler : H) (end : StreamEnd) → SendsAndParts k.contents k.heads (mid, now.handler) (writer, handler) kept why end
    → IsServed k old (record { reader = reader; writer = writer; clock = now.clock; handler = handler }) end
stopped s few stop.Closed reader more fewer reads stops mid kept sending writer handler end parts =
    parted_after s few stop.Closed (λ e. cc) reader more fewer reads stops mid kept sending writer handler end parts
stopped s few stop.Cut reader more fewer reads stops mid kept sending writer handler end parts =
    parted_after s few stop.Cut (λ e. cc) reader more fewer reads stops mid kept sending writer handler end parts
stopped s few stop.ReadsSpent reader more fewer reads stops mid kept sending writer handler end parts =
    parted_after s few stop.ReadsSpent (λ e. cc) reader more fewer reads stops mid kept sending writer handler end parts
stopped s few stop.ReadFault reader more fewer reads stops mid kept sending writer handler end parts =
    parted_after s few stop.ReadFault (λ e. cc) reader more fewer reads stops mid kept sending writer handler end parts
stopped s few stop.NoMemory reader more fewer reads stops mid kept sending writer handler end parts =
    parted_after s few stop.NoMemory (λ e. cc) reader more fewer reads stops mid kept sending writer handler end parts
stopped s few (stop.Refused e) reader more fewer reads stops mid kept sending writer handler end parts =
    parted_after s few (stop.Refused e) (λ e. cc) reader more fewer reads stops mid kept sending writer handler end parts
stopped s few (stop.Head target) reader more fewer reads stops mid kept sending writer handler end parts =
    parted_after s few (stop.Head target) (λ e. cc) reader more fewer reads stops mid kept sending writer handler end parts
stopped {k = k} {now = now} s few stop.WriteFault reader more fewer reads stops mid kept sending writer handler end (inl parts) =
    let same : writer ≡ mid = parts.2.1 ∙ wrote_none k.contents mid parts.0 kept sending.1 parts.1 in
    rw (parts.2.0, same) (cut_here s few reader more fewer brought reads.read sending.2 mid handler sending.0 parts.2.2)
stopped {k = k} {now = now} s few stop.WriteFault reader more fewer reads stops mid kept sending writer handler end (inr cut) =
    absurd (cut_nothing k.contents mid writer kept sending.1 cut.1)
