-- What a stream of requests is, what is written for it, and what each way to end says.
use Rattle.std.specs.Prelude.{◌≡◌, ◌≢◌, ℕ, ◌+◌, ◌<◌, ◌≤◌, ◌⊎◌, ℤ, Bool, true, false, ◌||◌, ◌==◌, List, [], ◌∷◌, ◌++◌, length, take, map, All, Option, ⊤}
use Rattle.std.specs.List.{concat, flat_map}
use Rattle.std.specs.Io.KnownBytes.{Consumes, Appends, IsAtEnd}
use Rattle.counted_io.specs.declared.counted.Counted.{Counted}
use Rattle.counted_io.specs.Counted.{calls_of, has_failed, known_bytes, HasMade}
use Rattle.counted_io.specs.Chains.{Wrote, MadeWrites}
use Rattle.http_wire.specs.declared.framing.FramingError.{FramingError}
use Rattle.http_wire.specs.declared.reply.Reply.{Reply}
use Rattle.http_wire.specs.declared.stream.StreamEnd.{StreamEnd}
use Rattle.http_wire.specs.declared.stream.StreamEnd.TheVariants.{Closed, Asked, Served, Refused, Cut, ReadsSpent, ReadFault, WriteFault, Failed}
use Rattle.http_wire.specs.Wire as request
use Rattle.http_wire.specs.ReplyText.{framing_reply, no_memory_reply, bytes_of, is_made}
use Rattle.http_wire.specs.Reading.{Finish, brought, ended, failed, Reads, count_of}
use Rattle.http_wire.specs.Wire.{WireRequest, wire_bytes, Splits, asks_close, IsOpen, IsRefusedFor, IsHeadRequest, BeginsServed}

-- a request on the wire, the moment at which it was handled, and the reply
pub record Exchange : Type 0 where
  pub wire : WireRequest
  pub at : ℤ
  pub reply : Reply

-- what the handler is asked by a request that comes after so many: at the thousandth, to close
abbrev pub question : ℕ → WireRequest → request.Asked
question before w =
    record {
      method = w.head.method;
      target = w.head.target;
      body = w.body;
      close = asks_close w.head || (before + 1 == 1000);
    }

-- One tick of the clock and one reply of the handler for each request, in order. Each leads from the clock and the
-- handler that the one before left.
abbrev pub Chain : {C H : Type 0} → (C → ℤ → C → Type 0) → (H → ℤ → request.Asked → Reply → H → Type 0)
    → ℕ → C × H → List Exchange → C × H → Type 0
Chain ticks handles before old [] new = new ≡ old
Chain {C} {H} ticks handles before old (e ∷ es) new =
    (clock : C) × (handler : H) × ticks old.0 e.at clock × handles old.1 e.at (question before e.wire) e.reply handler
    × Chain ticks handles (before + 1) (clock, handler) es new

-- the requests, and the bytes of the replies
abbrev pub wires_of : List Exchange → List WireRequest
wires_of es = map (λ e. e.wire) es

abbrev pub replies_of : List Exchange → List ℕ
replies_of es = flat_map (λ e. bytes_of e.reply) es

-- the stream goes on after the reply, unless the request is the thousandth
pub record GoesOn (e : Exchange) : Type 0 where
  pub made : is_made e.reply ≡ true
  pub asks : asks_close e.wire.head ≡ false

-- what is written after the replies: nothing, or the reply to what is no whole request
pub data Ending : Type 0 where
  silence : Ending
  refusal : FramingError → Ending
  to_head : List ℕ → Reply → Ending
  no_memory : Ending

-- its bytes
abbrev pub ending_bytes : Ending → List ℕ
ending_bytes silence = []
ending_bytes (refusal e) = framing_reply e
ending_bytes (to_head target reply) = bytes_of reply
ending_bytes no_memory = no_memory_reply

-- it answers what the rest begins with, and leads from one state of the handler to another
abbrev pub IsEnding : {H : Type 0} → (H → List ℕ → Reply → H → Type 0) → H → H → List ℕ → Ending → Type 0
IsEnding heads old new rest silence = new ≡ old
IsEnding heads old new rest (refusal e) = (new ≡ old) × IsRefusedFor e rest
IsEnding heads old new rest (to_head target reply) = heads old target reply new × IsHeadRequest target rest
IsEnding heads old new rest no_memory = (new ≡ old) × ((rest ≡ []) ⊎ BeginsServed rest)

-- the sides of a stream: where it is read, where replies are written, who tells the time, who answers
pub record Sides (R W C H : Type 0) : Type 0 where
  pub reader : Counted R
  pub writer : Counted W
  pub clock : C
  pub handler : H

-- What happened: the bytes that were consumed, the requests that were answered, the bytes left of those
-- consumed, the handler after the replies, what was written after them, all that was written, the number of
-- reads, and what each of those that brought bytes brought.
pub record Run (H : Type 0) : Type 0 where
  pub given : List ℕ
  pub exchanges : List Exchange
  pub rest : List ℕ
  pub handler : H
  pub ending : Ending
  pub written : List ℕ
  pub reads : ℕ
  pub pieces : List (List ℕ)

-- the last read brought more than what is left over: none was made once the last request had come whole
pub record HasNotReadOn (pieces : List (List ℕ)) (rest : List ℕ) : Type 0 where
  pub before : List (List ℕ)
  pub last : List ℕ
  pub are : pieces ≡ before ++ last ∷ []
  pub over : length rest < length last

-- The last read that brought bytes was needed: a part of these belongs to a request that was answered, or
-- what was left over before it was no whole request yet.
abbrev pub IsCalledFor : List (List ℕ) → List ℕ → Type 0
IsCalledFor pieces rest =
    (pieces ≡ []) ⊎ (HasNotReadOn pieces rest
    ⊎ ((before : List (List ℕ)) × (last : List ℕ) × (front : List ℕ) × (pieces ≡ before ++ last ∷ [])
    × (rest ≡ front ++ last) × IsOpen front))

-- how the reads of a stream finish where it ends so
abbrev pub finish_at : StreamEnd → Finish
finish_at Closed = ended
finish_at Cut = ended
finish_at ReadsSpent = brought
finish_at ReadFault = failed
finish_at Asked = brought
finish_at Served = brought
finish_at Refused = brought
finish_at Failed = brought
finish_at WriteFault = brought

-- whether all that was to be written was
abbrev pub is_all_written : StreamEnd → Bool
is_all_written Closed = true
is_all_written Cut = true
is_all_written ReadsSpent = true
is_all_written ReadFault = true
is_all_written Asked = true
is_all_written Served = true
is_all_written Refused = true
is_all_written Failed = true
is_all_written WriteFault = false

-- where memory is missed after the replies, it is for the buffer, before any read, or for a request that is served
abbrev pub MissesMemory : Ending → ℕ → List ℕ → Type 0
MissesMemory silence reads rest = ⊤
MissesMemory (refusal e) reads rest = ⊤
MissesMemory (to_head target reply) reads rest = ⊤
MissesMemory no_memory reads rest = (reads ≡ 0) ⊎ BeginsServed rest

-- fewer than 1,000 requests were answered, and the stream went on after each
pub record WentOn (es : List Exchange) : Type 0 where
  pub each : All GoesOn es
  pub few : length es < 1000

-- the stream went on after each request but the last
pub record EndedBy (es : List Exchange) (last : Exchange) : Type 0 where
  pub before : List Exchange
  pub are : es ≡ before ++ last ∷ []
  pub each : All GoesOn before

-- the input ended, and nothing was written for what was left of it
pub record MetEnd {H : Type 0} (left : Option (List ℕ)) (run : Run H) : Type 0 where
  pub on : WentOn run.exchanges
  pub silent : run.ending ≡ silence
  pub end : IsAtEnd left
  pub read : 0 < run.reads

-- what was left was no whole request yet, and nothing was written for it
pub record LeftOpen {H : Type 0} (run : Run H) : Type 0 where
  pub on : WentOn run.exchanges
  pub silent : run.ending ≡ silence
  pub still : IsOpen run.rest

-- the last request asked to close, and had a reply of the handler
pub record AskedAtReply {H : Type 0} (run : Run H) : Type 0 where
  pub last : Exchange
  pub ended : EndedBy run.exchanges last
  pub silent : run.ending ≡ silence
  pub made : is_made last.reply ≡ true
  pub asks : asks_close last.wire.head ≡ true
  pub left : HasNotReadOn run.pieces run.rest

-- the last reply is a fixed one, of a fault
pub record FailedAtReply {H : Type 0} (run : Run H) : Type 0 where
  pub last : Exchange
  pub ended : EndedBy run.exchanges last
  pub silent : run.ending ≡ silence
  pub fixed : is_made last.reply ≡ false
  pub left : HasNotReadOn run.pieces run.rest

-- what was written last refuses what was left
abbrev pub Refuses : Ending → Type 0
Refuses silence = ⊥
Refuses (refusal e) = ⊤
Refuses (to_head target reply) = is_made reply ≡ true
Refuses no_memory = ⊥

-- what was written last is a fixed reply of a fault
abbrev pub Fails : Ending → Type 0
Fails silence = ⊥
Fails (refusal e) = ⊥
Fails (to_head target reply) = is_made reply ≡ false
Fails no_memory = ⊤

-- the text is what was written before the message, and the first bytes of it, but not all
pub record BreaksOff (before message written : List ℕ) : Type 0 where
  pub taken : ℕ
  pub short : taken < length message
  pub is : written ≡ before ++ take taken message

-- A reply wasn't written whole. Those before it were, and of those after it nothing was. Its request and those
-- after it came by the last read: none was made once it had come whole, so that no reply waited for a read.
pub record CutAtReply {H : Type 0} (run : Run H) : Type 0 where
  pub before : List Exchange
  pub first : Exchange
  pub after : List Exchange
  pub are : run.exchanges ≡ before ++ first ∷ after
  pub breaks : BreaksOff (replies_of before) (bytes_of first.reply) run.written
  pub left : HasNotReadOn run.pieces (flat_map wire_bytes (wires_of after) ++ run.rest)
  pub last : Exchange
  pub ended : EndedBy run.exchanges last
  pub silent : run.ending ≡ silence

-- what is written after the replies wasn't written whole, and the replies were
pub record CutAtEnding {H : Type 0} (run : Run H) : Type 0 where
  pub on : WentOn run.exchanges
  pub breaks : BreaksOff (replies_of run.exchanges) (ending_bytes run.ending) run.written

-- what each way to end says
abbrev pub EndsAs : {R W C H : Type 0} → (R → Option (List ℕ)) → Sides R W C H → Sides R W C H → Run H
    → StreamEnd → Type 0
EndsAs remaining old new run Closed = MetEnd (known_bytes remaining new.reader) run × (run.rest ≡ [])
EndsAs remaining old new run Cut = MetEnd (known_bytes remaining new.reader) run × LeftOpen run × (0 < length run.rest)
EndsAs remaining old new run ReadsSpent = LeftOpen run × (run.reads ≡ 100000)
EndsAs remaining old new run ReadFault = LeftOpen run × (has_failed new.reader ≡ true) × (0 < run.reads)
EndsAs remaining old new run Asked = AskedAtReply run
EndsAs remaining old new run Served =
    All GoesOn run.exchanges × (length run.exchanges ≡ 1000) × (run.ending ≡ silence)
    × HasNotReadOn run.pieces run.rest
EndsAs remaining old new run Refused = WentOn run.exchanges × Refuses run.ending
EndsAs remaining old new run Failed = FailedAtReply run ⊎ (WentOn run.exchanges × Fails run.ending)
EndsAs remaining old new run WriteFault =
    (has_failed new.writer ≡ true) × MadeWrites old.writer new.writer false × (CutAtReply run ⊎ CutAtEnding run)

-- The stream was served: the bytes consumed are whole requests and a rest, each request had one tick of the
-- clock and one reply of the handler, and the replies were written in order and nothing else but what parts
-- with the rest. Each read brought bytes that were needed, but for the last one where the stream ended by it;
-- each write took bytes, but for the last one where the stream ended by that.
pub record Serves {R W C H : Type 0} (remaining : R → Option (List ℕ)) (contents : W → Option (List ℕ))
    (ticks : C → ℤ → C → Type 0) (handles : H → ℤ → request.Asked → Reply → H → Type 0)
    (heads : H → List ℕ → Reply → H → Type 0)
    (old new : Sides R W C H) (end : StreamEnd) : Type 0 where
  pub run : Run H
  pub consumed : Consumes (known_bytes remaining old.reader) (known_bytes remaining new.reader) run.given
  pub reading : Splits run.given (wires_of run.exchanges) run.rest
  pub at_most : length run.exchanges ≤ 1000
  pub chain : Chain ticks handles 0 (old.clock, old.handler) run.exchanges (new.clock, run.handler)
  pub ending : IsEnding heads run.handler new.handler run.rest run.ending
  pub appended : Appends (known_bytes contents old.writer) (known_bytes contents new.writer) run.written
  pub whole : end ≢ WriteFault → run.written ≡ replies_of run.exchanges ++ ending_bytes run.ending
  pub counted : HasMade run.reads (calls_of old.reader) (calls_of new.reader)
  pub reads_at_most : run.reads ≤ 100000
  pub given_is : concat run.pieces ≡ run.given
  pub reads_are : run.reads ≡ count_of run.pieces (finish_at end)
  pub read : Reads remaining old.reader new.reader run.pieces (finish_at end)
  pub needed : IsCalledFor run.pieces run.rest
  pub wrote : Wrote contents old.writer new.writer run.written (is_all_written end)
  pub memory : MissesMemory run.ending run.reads run.rest
  pub ends : EndsAs remaining old new run end
