-- What is written where no further request is taken.
use Rattle.std.specs.Prelude.{◌≡◌, ◌⊎◌, ℕ, true, false, if◌then◌else◌, List, Option}
use Rattle.counted_io.specs.declared.counted.Counted.{Counted}
use Rattle.counted_io.specs.Chains.{Wrote, IsCutShort, MadeWrites}
use Rattle.http_wire.specs.declared.reading.StopCause.{StopCause}
use Rattle.http_wire.specs.declared.reading.StopCause.TheVariants as stop
use Rattle.http_wire.specs.declared.reply.Reply.{Reply}
use Rattle.http_wire.specs.declared.stream.StreamEnd.{StreamEnd}
use Rattle.http_wire.specs.declared.stream.StreamEnd.TheVariants.{Closed, Refused, Cut, ReadsSpent, ReadFault, WriteFault, Failed}
use Rattle.http_wire.specs.ReplyText.{framing_reply, no_memory_reply, bytes_of, is_made}

-- the message was written and the stream ended so, or it was cut short
abbrev pub SendsLast : {W : Type 0} → (W → Option (List ℕ)) → Counted W → Counted W → List ℕ → StreamEnd
    → StreamEnd → Type 0
SendsLast contents old new message good end =
    ((end ≡ good) × Wrote contents old new message true)
    ⊎ ((end ≡ WriteFault) × IsCutShort contents old new message × MadeWrites old new false)

-- what each stop of the reading leads to
abbrev pub ClosingReply : {W H : Type 0} → (W → Option (List ℕ)) → (H → List ℕ → Reply → H → Type 0) → Counted W
    → Counted W → H → H → StopCause → StreamEnd → Type 0
ClosingReply contents heads old new before after stop.Closed end = (end ≡ Closed) × (new ≡ old) × (after ≡ before)
ClosingReply contents heads old new before after stop.Cut end = (end ≡ Cut) × (new ≡ old) × (after ≡ before)
ClosingReply contents heads old new before after stop.ReadsSpent end = (end ≡ ReadsSpent) × (new ≡ old) × (after ≡ before)
ClosingReply contents heads old new before after stop.ReadFault end = (end ≡ ReadFault) × (new ≡ old) × (after ≡ before)
ClosingReply contents heads old new before after stop.NoMemory end =
    SendsLast contents old new no_memory_reply Failed end × (after ≡ before)
ClosingReply contents heads old new before after (stop.Refused e) end =
    SendsLast contents old new (framing_reply e) Refused end × (after ≡ before)
ClosingReply contents heads old new before after (stop.Head target) end =
    (reply : Reply) × heads before target.items reply after
    × SendsLast contents old new (bytes_of reply) (if is_made reply then Refused else Failed) end
ClosingReply contents heads old new before after stop.WriteFault end = (end ≡ WriteFault) × (new ≡ old) × (after ≡ before)

-- The same where replies wait, which go first. The writer and the handler are given together, before and after.
abbrev pub SendsAndParts : {W H : Type 0} → (W → Option (List ℕ)) → (H → List ℕ → Reply → H → Type 0) → Counted W × H → Counted W × H
    → List ℕ → StopCause → StreamEnd → Type 0
SendsAndParts {W} contents heads old new waits stop end =
    ((mid : Counted W) × Wrote contents old.0 mid waits true × ClosingReply contents heads mid new.0 old.1 new.1 stop end)
    ⊎ ((end ≡ WriteFault) × IsCutShort contents old.0 new.0 waits × (new.1 ≡ old.1))
