-- A stream between two requests, and after a request that was handled.
use Rattle.std.proofs.Common.{◌≡◌, ℕ, ◌+◌, ◌-◌, ◌<◌, ◌≤◌, inl, inr, ℤ, Bool, true, false, List, [], ◌∷◌, ◌++◌, length, All, Option, arith, refl, sym, ap, subst, ◌∙◌, append_assoc, append-nil, ap₂}
use Rattle.std.specs.Prelude.{◌||◌, ◌==◌}
use Rattle.std.specs.List.{concat, flat_map}
use Rattle.std.proofs.lemmas.Bool.{cases_lt}
use Rattle.std.proofs.lemmas.List.{map-append, length-append, nil_from_length}
use Rattle.std.proofs.lemmas.Grind.{flat_map-append}
use Rattle.std.proofs.lemmas.List.Elements.{All-append, All-cons, All-nil}
use Rattle.counted_io.specs.declared.counted.Counted.{Counted}
use Rattle.counted_io.specs.Chains.{Wrote}
use Rattle.counted_io.proofs.Chaining.{wrote_nothing, wrote_on}
use Rattle.http_wire.specs.declared.input.TheConstants.{MOST}
use Rattle.http_wire.specs.declared.request.Request.{Request}
use Rattle.http_wire.specs.declared.reply.Reply.{Reply}
use Rattle.http_wire.specs.declared.stream.StreamEnd.{StreamEnd}
use Rattle.http_wire.specs.Wire as request
use Rattle.http_wire.specs.ReplyText.{bytes_of, is_made}
use Rattle.http_wire.specs.Reading.{HasRead, ReadsOn, Takes, KeepsRoom, brought}
use Rattle.http_wire.specs.Replies.{HoldsOrSends, Adds}
use Rattle.http_wire.specs.Wire.{WireRequest, IsWireRequest, IsRequestOn, wire_bytes, Splits, asks_close}
use Rattle.http_wire.specs.Stream.{Exchange, question, Chain, wires_of, replies_of, HasNotReadOn, GoesOn, silence, ending_bytes, Sides, Serves}
use Rattle.http_wire.proofs.Needs.{IsLeftOver, left_after}
use Rattle.http_wire.proofs.Readings.{HasRead-trans, read_none}
use Rattle.http_wire.proofs.Sending.{IsHeld, held_more}

-- one exchange more at the end of a chain
Chain-push : {C H : Type 0} (ticks : C → ℤ → C → Type 0) (handles : H → ℤ → request.Asked → Reply → H → Type 0)
    (n : ℕ) (old mid : C × H) (es : List Exchange) (e : Exchange) (clock : C) (handler : H)
    → Chain ticks handles n old es mid → ticks mid.0 e.at clock → handles mid.1 e.at (question (n + length es) e.wire) e.reply handler
    → Chain ticks handles n old (es ++ e ∷ []) (clock, handler)
Chain-push ticks handles n old mid [] e clock handler chain tick answer = (
  clock,
  handler,
  subst (λ s. ticks s.0 e.at clock) chain tick,
  subst (λ s. handles s.1 e.at (question n e.wire) e.reply handler) chain
      (subst (λ (k : ℕ). handles mid.1 e.at (question k e.wire) e.reply handler) (let none : n + 0 ≡ n = omega arith in none) answer),
  refl,
)
Chain-push ticks handles n old mid (x ∷ es) e clock handler chain tick answer =
    let place : n + length (x ∷ es) ≡ (n + 1) + length es = omega arith in (
      chain.0,
      chain.1,
      chain.2,
      chain.3,
      Chain-push ticks handles (n + 1) (chain.0, chain.1) mid es e clock handler chain.4 tick
          (subst (λ (k : ℕ). handles mid.1 e.at (question k e.wire) e.reply handler) place answer),
    )

-- the bytes of one request more
Splits-push : (given more unread rest : List ℕ) (es : List Exchange) (e : Exchange) → Splits given (wires_of es) unread
    → unread ++ more ≡ wire_bytes e.wire ++ rest → IsWireRequest e.wire → Splits (given ++ more) (wires_of (es ++ e ∷ [])) rest
Splits-push given more unread rest es e splits next wire =
    let grown : wires_of (es ++ e ∷ []) ≡ wires_of es ++ e.wire ∷ [] = map-append (λ (x : Exchange). x.wire) es (e ∷ []) in
    let bytes : flat_map wire_bytes (wires_of es ++ e.wire ∷ []) ≡ flat_map wire_bytes (wires_of es) ++ wire_bytes e.wire =
    flat_map-append wire_bytes (wires_of es) (e.wire ∷ []) ∙ ap (λ (b : List ℕ). flat_map wire_bytes (wires_of es) ++ b) (append-nil (wire_bytes e.wire)) in
    rw grown (record {
      whole =
          ap (λ (b : List ℕ). b ++ more) splits.whole
          ∙ (append_assoc (flat_map wire_bytes (wires_of es)) unread more
          ∙ (ap (λ (b : List ℕ). flat_map wire_bytes (wires_of es) ++ b) next
          ∙ (sym (append_assoc (flat_map wire_bytes (wires_of es)) (wire_bytes e.wire) rest) ∙ ap (λ (b : List ℕ). b ++ rest) (sym bytes))));
      each = All-append IsWireRequest (wires_of es) (e.wire ∷ []) splits.each (All-cons IsWireRequest e.wire [] wire (All-nil IsWireRequest));
    })

-- the bytes that were read on are left
pub Splits-more : (given more unread : List ℕ) (wires : List WireRequest) → Splits given wires unread → Splits (given ++ more) wires (unread ++ more)
Splits-more given more unread wires splits =
    record { whole = ap (λ (b : List ℕ). b ++ more) splits.whole ∙ append_assoc (flat_map wire_bytes wires) unread more; each = splits.each }

-- the bytes of one reply more
replies_push : (es : List Exchange) (e : Exchange) → replies_of (es ++ e ∷ []) ≡ replies_of es ++ bytes_of e.reply
replies_push es e =
    flat_map-append (λ (x : Exchange). bytes_of x.reply) es (e ∷ []) ∙ ap (λ (b : List ℕ). replies_of es ++ b) (append-nil (bytes_of e.reply))

-- what is known of the bytes of a reader and a writer, and what a clock and a handler may do
pub record Words (R W C H : Type 0) : Type 1 where
  pub remaining : R → Option (List ℕ)
  pub contents : W → Option (List ℕ)
  pub ticks : C → ℤ → C → Type 0
  pub handles : H → ℤ → request.Asked → Reply → H → Type 0
  pub heads : H → List ℕ → Reply → H → Type 0

-- the sides, one after the other
abbrev pub sides : {R W C H : Type 0} → Counted R → Counted W → C → H → Sides R W C H
sides reader writer clock handler = record { reader = reader; writer = writer; clock = clock; handler = handler }

-- the stream was served, in these words
abbrev pub IsServed : {R W C H : Type 0} → Words R W C H → Sides R W C H → Sides R W C H → StreamEnd → Type 0
IsServed k old new end = Serves k.remaining k.contents k.ticks k.handles k.heads old new end

-- what holds between two requests, where no reply waits
pub record Serving {R W C H : Type 0} (k : Words R W C H)
    (old now : Sides R W C H) (unread : List ℕ) (room left served : ℕ) : Type 0 where
  pub given : List ℕ
  pub exchanges : List Exchange
  pub read : HasRead k.remaining old.reader now.reader given 100000 left brought
  pub over : IsLeftOver read.pieces unread
  pub roomy : left < 100000 → MOST ≤ room
  pub reading : Splits given (wires_of exchanges) unread
  pub chain : Chain k.ticks k.handles 0 (old.clock, old.handler) exchanges (now.clock, now.handler)
  pub wrote : Wrote k.contents old.writer now.writer (replies_of exchanges) true
  pub each : All GoesOn exchanges
  pub count : length exchanges ≡ served

-- the same where replies wait: those of the last requests, which came by the last read
pub record Gathering {R W C H : Type 0} (k : Words R W C H)
    (old now : Sides R W C H) (unread waits : List ℕ) (room left served : ℕ) : Type 0 where
  pub given : List ℕ
  pub sent : List Exchange
  pub late : List Exchange
  pub waits_are : waits ≡ replies_of late
  pub read : HasRead k.remaining old.reader now.reader given 100000 left brought
  pub over : IsLeftOver read.pieces unread
  pub held : IsHeld read.pieces late unread
  pub roomy : left < 100000 → MOST ≤ room
  pub reading : Splits given (wires_of (sent ++ late)) unread
  pub chain : Chain k.ticks k.handles 0 (old.clock, old.handler) (sent ++ late) (now.clock, now.handler)
  pub wrote : Wrote k.contents old.writer now.writer (replies_of sent) true
  pub each : All GoesOn (sent ++ late)
  pub count : length (sent ++ late) ≡ served

-- none waits at the beginning
pub gathering_first : {R W C H : Type 0} (k : Words R W C H) (old : Sides R W C H) (unread waits : List ℕ) (room : ℕ)
    → unread ≡ [] → waits ≡ [] → Gathering k old old unread waits room 100000 0
unfolding read_none
gathering_first k old unread waits room none empty =
    record {
      given = [];
      sent = [];
      late = [];
      waits_are = empty;
      read = read_none k.remaining old.reader 100000;
      over = inl (refl, none);
      held = tt;
      roomy = λ fell. absurd (let never : ⊥ = omega arith in never);
      reading = record { whole = sym none; each = All-nil IsWireRequest };
      chain = refl;
      wrote = wrote_nothing k.contents old.writer;
      each = All-nil GoesOn;
      count = refl;
    }

-- the bytes of the replies to requests and to further ones
pub replies_on : (es more : List Exchange) → replies_of (es ++ more) ≡ replies_of es ++ replies_of more
replies_on es more = flat_map-append (λ (x : Exchange). bytes_of x.reply) es more

-- once those that wait are written, none does
pub all_sent : {R W C H : Type 0} {k : Words R W C H} {old now : Sides R W C H} {unread waits : List ℕ} {room left served : ℕ}
    → Gathering k old now unread waits room left served
    → (writer : Counted W) → Wrote k.contents now.writer writer waits true
    → Serving k old (record now { writer = writer }) unread room left served
all_sent {k = k} {old = old} {now = now} s writer sent =
    record {
      given = s.given;
      exchanges = s.sent ++ s.late;
      read = s.read;
      over = s.over;
      roomy = s.roomy;
      reading = s.reading;
      chain = s.chain;
      wrote = rw (replies_on s.sent s.late) (wrote_on k.contents old.writer now.writer writer _ _ true s.wrote (rw s.waits_are at sent));
      each = s.each;
      count = s.count;
    }

-- what holds once a request came whole and was handled, before its reply is added to those that wait
pub record Handled {R W C H : Type 0} (k : Words R W C H)
    (old now : Sides R W C H) (unread waits : List ℕ) (room left served : ℕ) (close : Bool) (reply : Reply) : Type 0 where
  pub given : List ℕ
  pub sent : List Exchange
  pub late : List Exchange
  pub waits_are : waits ≡ replies_of late
  pub last : Exchange
  pub read : HasRead k.remaining old.reader now.reader given 100000 left brought
  pub over : HasNotReadOn read.pieces unread
  pub held : IsHeld read.pieces (late ++ last ∷ []) unread
  pub roomy : left < 100000 → MOST ≤ room
  pub reading : Splits given (wires_of ((sent ++ late) ++ last ∷ [])) unread
  pub chain : Chain k.ticks k.handles 0 (old.clock, old.handler) ((sent ++ late) ++ last ∷ []) (now.clock, now.handler)
  pub wrote : Wrote k.contents old.writer now.writer (replies_of sent) true
  pub each : All GoesOn (sent ++ late)
  pub count : length (sent ++ late) ≡ served
  pub reply_is : last.reply ≡ reply
  pub asks : asks_close last.wire.head ≡ close

-- what is asked by the request that was taken, and by its wire
asked_is : (served : ℕ) (w : WireRequest) (r : Request) → IsRequestOn w r
    → record (request.asked r) { close = r.close || (served + 1 == 1000) } ≡ question served w
asked_is served w r is =
    λ i. record { method = is.method i; target = is.target i; body = is.body i; close = is.close i || (served + 1 == 1000) }

-- the room after some reads
room_through : (room wider left fewer : ℕ) → (left < 100000 → MOST ≤ room) → left ≤ 100000 → fewer ≤ left → KeepsRoom room wider left fewer → fewer < 100000 → MOST ≤ wider
room_through room wider left fewer before spent falls keeps fell =
    elim (cases_lt fewer left) [ inl lt ↦ keeps.whole lt | inr ge ↦ (let up = keeps.kept in let had = before (omega arith) in omega arith) ]

-- no read gave no piece
pub no_pieces : (pieces : List (List ℕ)) (x y : ℕ) → x - y ≡ length pieces → y ≡ x → pieces ≡ []
no_pieces pieces x y count same = nil_from_length pieces (omega arith)

-- a request is read, the clock ticks, and the handler replies
pub handled : {R W C H : Type 0} {k : Words R W C H}
    {old now : Sides R W C H} {unread waits : List ℕ} {room left served : ℕ} → Gathering k old now unread waits room left served
    → (reader : Counted R) (more rest : List ℕ) (wider fewer : ℕ) (r : Request) → ReadsOn k.remaining now.reader reader unread more left fewer brought
    → KeepsRoom room wider left fewer → Takes (unread ++ more) rest r
    → (writer : Counted W) (kept : List ℕ) → HoldsOrSends k.contents now.writer writer waits kept left fewer
    → (at : ℤ) (clock : C) → k.ticks now.clock at clock
    → (reply : Reply) (handler : H) → k.handles now.handler at (record (request.asked r) { close = r.close || (served + 1 == 1000) }) reply handler
    → Handled k old (record { reader = reader; writer = writer; clock = clock; handler = handler }) rest kept wider fewer served r.close reply
unfolding HasRead-trans
handled {R} {W} {C} {H} {k = k} {old = old} {now = now} {unread = unread} {waits = waits} {room = room} {left = left} {served = served}
    s reader more rest wider fewer r reads keeps takes writer kept sending at clock tick reply handler answer = by_sending sending
  where
    last : Exchange
    last = record { wire = takes.wire; at = at; reply = reply }

    over : HasNotReadOn (s.read.pieces ++ reads.read.pieces) rest
    over = left_after s.read.pieces reads.read.pieces unread more rest takes.wire s.over reads.needed reads.read.given_is takes.is_wire takes.whole

    chain : Chain k.ticks k.handles 0 (old.clock, old.handler) ((s.sent ++ s.late) ++ last ∷ []) (clock, handler)
    chain =
        let count = s.count in
        let place : 0 + length (s.sent ++ s.late) ≡ served = omega arith in
        let asked = asked_is served takes.wire r takes.request in
        Chain-push k.ticks k.handles 0 (old.clock, old.handler) (now.clock, now.handler) (s.sent ++ s.late) last clock handler s.chain tick
        (rw place (subst (λ (a : request.Asked). k.handles now.handler at a reply handler) asked answer))

    by_sending : HoldsOrSends k.contents now.writer writer waits kept left fewer
        → Handled k old (record { reader = reader; writer = writer; clock = clock; handler = handler }) rest kept wider fewer served r.close reply
    by_sending (inl h) =
        let none : reads.read.pieces ≡ [] = no_pieces reads.read.pieces left fewer reads.read.count h.2 in
        let pieces : s.read.pieces ++ reads.read.pieces ≡ s.read.pieces = ap (λ (ps : List (List ℕ)). s.read.pieces ++ ps) none ∙ append-nil s.read.pieces in
        let nothing : more ≡ [] = sym reads.read.given_is ∙ ap concat none in
        let stands : unread ≡ wire_bytes takes.wire ++ rest = sym (ap (λ (b : List ℕ). unread ++ b) nothing ∙ append-nil unread) ∙ takes.whole in
        record {
          given = s.given ++ more;
          sent = s.sent;
          late = s.late;
          waits_are = h.1 ∙ s.waits_are;
          last = last;
          read = HasRead-trans _ _ _ _ _ _ _ _ _ _ s.read reads.read;
          over = over;
          held = held_more (s.read.pieces ++ reads.read.pieces) s.late last unread rest stands (subst (λ (ps : List (List ℕ)). IsHeld ps s.late unread) (sym pieces) s.held) over;
          roomy = room_through room wider left fewer s.roomy s.read.spent reads.read.spent keeps;
          reading = Splits-push s.given more unread rest (s.sent ++ s.late) last s.reading takes.whole takes.is_wire;
          chain = chain;
          wrote = subst (λ (w : Counted W). Wrote k.contents old.writer w (replies_of s.sent) true) (sym h.0) s.wrote;
          each = s.each;
          count = s.count;
          reply_is = refl;
          asks = sym takes.request.close;
        }
    by_sending (inr h) =
        let all : (s.sent ++ s.late) ++ [] ≡ s.sent ++ s.late = append-nil (s.sent ++ s.late) in
        record {
          given = s.given ++ more;
          sent = s.sent ++ s.late;
          late = [];
          waits_are = h.1;
          last = last;
          read = HasRead-trans _ _ _ _ _ _ _ _ _ _ s.read reads.read;
          over = over;
          held = over;
          roomy = room_through room wider left fewer s.roomy s.read.spent reads.read.spent keeps;
          reading = rw all (Splits-push s.given more unread rest (s.sent ++ s.late) last s.reading takes.whole takes.is_wire);
          chain = rw all chain;
          wrote = rw (replies_on s.sent s.late) (wrote_on k.contents old.writer now.writer writer _ _ true s.wrote (rw s.waits_are at h.0));
          each = rw all s.each;
          count = ap length all ∙ s.count;
          reply_is = refl;
          asks = sym takes.request.close;
        }

-- the stream goes on after each of the requests, and after one more
pub each_push : (es : List Exchange) (e : Exchange) → All GoesOn es → GoesOn e → All GoesOn (es ++ e ∷ [])
each_push es e each one = All-append GoesOn es (e ∷ []) each (All-cons GoesOn e [] one (All-nil GoesOn))

-- the number of the requests with one more
pub count_push : (es : List Exchange) (e : Exchange) → length (es ++ e ∷ []) ≡ length es + 1
count_push es e = length-append es (e ∷ [])

-- the bytes of the replies that wait, with one more
pub waits_push : (waits : List ℕ) (late : List Exchange) (e : Exchange) (reply : Reply) → waits ≡ replies_of late → e.reply ≡ reply
    → waits ++ bytes_of reply ≡ replies_of (late ++ e ∷ [])
waits_push waits late e reply are is = ap₂ ◌++◌ are (ap bytes_of (sym is)) ∙ sym (replies_push late e)

-- all replies, once those that wait and one more are written
pub replies_sent : {W : Type 0} (contents : W → Option (List ℕ)) (old now new : Counted W) (sent late : List Exchange) (e : Exchange) (waits : List ℕ) (reply : Reply)
    → waits ≡ replies_of late → e.reply ≡ reply
    → Wrote contents old now (replies_of sent) true → Wrote contents now new (waits ++ bytes_of reply) true
    → Wrote contents old new (replies_of ((sent ++ late) ++ e ∷ [])) true
replies_sent contents old now new sent late e waits reply are is before after =
    let text : replies_of ((sent ++ late) ++ e ∷ []) ≡ replies_of sent ++ (waits ++ bytes_of reply) =
    ap replies_of (append_assoc sent late (e ∷ [])) ∙ (replies_on sent (late ++ e ∷ []) ∙ ap (λ (b : List ℕ). replies_of sent ++ b) (sym (waits_push waits late e reply are is))) in
    rw text (wrote_on contents old now new _ _ true before after)

-- where nothing is written after the replies
pub no_ending : (es : List Exchange) → replies_of es ≡ replies_of es ++ ending_bytes silence
no_ending es = sym (append-nil (replies_of es))

-- the reply was added, and the handler goes on
pub goes_on : {R W C H : Type 0} {k : Words R W C H}
    {old now : Sides R W C H} {unread waits : List ℕ} {room left served : ℕ} {close : Bool} {reply : Reply}
    → Handled k old now unread waits room left served close reply
    → (writer : Counted W) (space : ℕ) (kept : List ℕ) → Adds k.contents space now.writer writer waits (bytes_of reply) kept
    → is_made reply ≡ true → close ≡ false
    → Gathering k old (record now { writer = writer }) unread kept room left (served + 1)
goes_on {W = W} {k = k} {old = old} {now = now} {unread = unread} {waits = waits} {reply = reply} h writer space kept (inl added) made stays =
    let all : (h.sent ++ h.late) ++ h.last ∷ [] ≡ h.sent ++ (h.late ++ h.last ∷ []) = append_assoc h.sent h.late (h.last ∷ []) in
    let count = h.count in
    let grown = count_push (h.sent ++ h.late) h.last in
    record {
      given = h.given;
      sent = h.sent;
      late = h.late ++ h.last ∷ [];
      waits_are = added.2 ∙ waits_push waits h.late h.last reply h.waits_are h.reply_is;
      read = h.read;
      over = inr h.over;
      held = h.held;
      roomy = h.roomy;
      reading = subst (λ (es : List Exchange). Splits h.given (wires_of es) unread) all h.reading;
      chain = subst (λ (es : List Exchange). Chain k.ticks k.handles 0 (old.clock, old.handler) es (now.clock, now.handler)) all h.chain;
      wrote = subst (λ (w : Counted W). Wrote k.contents old.writer w (replies_of h.sent) true) (sym added.1) h.wrote;
      each = subst (λ (es : List Exchange). All GoesOn es) all (each_push (h.sent ++ h.late) h.last h.each (record { made = ap is_made h.reply_is ∙ made; asks = h.asks ∙ stays }));
      count = sym (ap length all) ∙ (grown ∙ ap (λ (n : ℕ). n + 1) count);
    }
goes_on {k = k} {old = old} {now = now} {waits = waits} {reply = reply} h writer space kept (inr added) made stays =
    let all : ((h.sent ++ h.late) ++ h.last ∷ []) ++ [] ≡ (h.sent ++ h.late) ++ h.last ∷ [] = append-nil ((h.sent ++ h.late) ++ h.last ∷ []) in
    let count = h.count in
    record {
      given = h.given;
      sent = (h.sent ++ h.late) ++ h.last ∷ [];
      late = [];
      waits_are = added.2;
      read = h.read;
      over = inr h.over;
      held = tt;
      roomy = h.roomy;
      reading = rw all h.reading;
      chain = rw all h.chain;
      wrote = replies_sent k.contents old.writer now.writer writer h.sent h.late h.last waits reply h.waits_are h.reply_is h.wrote added.1;
      each = rw all (each_push (h.sent ++ h.late) h.last h.each (record { made = ap is_made h.reply_is ∙ made; asks = h.asks ∙ stays }));
      count = ap length all ∙ (count_push (h.sent ++ h.late) h.last ∙ ap (λ (n : ℕ). n + 1) count);
    }
