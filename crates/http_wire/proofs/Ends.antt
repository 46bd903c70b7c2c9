-- What each way to end says, from what holds when the stream ends.
use Rattle.std.proofs.Common.{◌≡◌, ℕ, ◌+◌, ◌-◌, ◌<◌, ◌≤◌, Bool, true, false, List, [], ◌∷◌, ◌++◌, length, take, All, arith, refl, sym, ap, subst, ◌∙◌, inl, inr, append_assoc, append-nil}
use Rattle.std.proofs.lemmas.List.{length-map}
use Rattle.std.proofs.lemmas.List.Elements.{All-head, All-tail, All-cons, All-nil}
use Rattle.counted_io.specs.declared.counted.Counted.{Counted}
use Rattle.counted_io.specs.Chains.{Wrote, IsCutShort}
use Rattle.counted_io.proofs.Chaining.{wrote_on, wrote_appends}
use Rattle.http_wire.specs.declared.reply.Reply.{Reply}
use Rattle.http_wire.specs.declared.stream.StreamEnd.{StreamEnd}
use Rattle.http_wire.specs.declared.stream.StreamEnd.TheVariants.{Asked, Served, WriteFault, Failed}
use Rattle.http_wire.specs.ClosingReply.{SendsLast}
use Rattle.http_wire.specs.Reading.{HasRead, brought}
use Rattle.http_wire.specs.Replies.{Adds}
use Rattle.http_wire.specs.ReplyText.{bytes_of, is_made}
use Rattle.http_wire.specs.Wire.{Splits}
use Rattle.http_wire.specs.Stream.{Exchange, Chain, replies_of, wires_of, silence, Sides, Run, GoesOn, EndedBy, IsCalledFor}
use Rattle.http_wire.proofs.Needs.{IsLeftOver, left_at_end}
use Rattle.http_wire.proofs.Sending.{IsHeld, Broken, broken, held_from, cut_nothing, wrote_made}
use Rattle.http_wire.proofs.Serving.{Words, IsServed, Serving, Gathering, Handled, replies_sent, replies_on, waits_push, no_ending, count_push, all_sent}

-- requests after each of which the stream went on are ended by the last of them
all_ended : (before : List Exchange) (first : Exchange) (after : List Exchange) → All GoesOn (before ++ first ∷ after)
    → (last : Exchange) × EndedBy (before ++ first ∷ after) last
all_ended [] first [] each = (first, record { before = []; are = refl; each = All-nil GoesOn })
all_ended [] first (e ∷ es) each =
    let more = all_ended [] e es (All-tail GoesOn first (e ∷ es) each) in
    (more.0, record { before = first ∷ more.1.before; are = ap (λ (xs : List Exchange). first ∷ xs) more.1.are; each = All-cons GoesOn first more.1.before (All-head GoesOn first (e ∷ es) each) more.1.each })
all_ended (b ∷ bs) first after each =
    let more = all_ended bs first after (All-tail GoesOn b (bs ++ first ∷ after) each) in
    (more.0, record { before = b ∷ more.1.before; are = ap (λ (xs : List Exchange). b ∷ xs) more.1.are; each = All-cons GoesOn b more.1.before (All-head GoesOn b (bs ++ first ∷ after) each) more.1.each })

-- what holds where the replies to some last requests are to be written, and nothing after them
record Sending {R W C H : Type 0} (k : Words R W C H) (old now : Sides R W C H) (unread : List ℕ) (left : ℕ) : Type 0 where
  given : List ℕ
  sent : List Exchange
  late : List Exchange
  read : HasRead k.remaining old.reader now.reader given 100000 left brought
  needed : IsCalledFor read.pieces unread
  held : IsHeld read.pieces late unread
  reading : Splits given (wires_of (sent ++ late)) unread
  few : length (sent ++ late) ≤ 1000
  chain : Chain k.ticks k.handles 0 (old.clock, old.handler) (sent ++ late) (now.clock, now.handler)
  wrote : Wrote k.contents old.writer now.writer (replies_of sent) true
  ended : (before : List Exchange) (first : Exchange) (after : List Exchange) → sent ++ late ≡ before ++ first ∷ after → (last : Exchange) × EndedBy (sent ++ late) last

-- these replies were cut short
cut_at : {R W C H : Type 0} {k : Words R W C H} {old now : Sides R W C H} {unread : List ℕ} {left : ℕ} → (s : Sending k old now unread left)
    → (writer : Counted W) → IsCutShort k.contents now.writer writer (replies_of s.late)
    → IsServed k old (record now { writer = writer }) WriteFault
cut_at {k = k} {old = old} {now = now} {unread = unread} {left = left} s writer cut =
    let b : Broken s.late cut.taken = broken s.late cut.taken cut.short in
    let written = replies_of s.sent ++ take cut.taken (replies_of s.late) in
    let wrote = wrote_on k.contents old.writer now.writer writer (replies_of s.sent) (take cut.taken (replies_of s.late)) false s.wrote cut.wrote in
    let are : s.sent ++ s.late ≡ (s.sent ++ b.before) ++ b.first ∷ b.after = ap (λ (es : List Exchange). s.sent ++ es) b.are ∙ sym (append_assoc s.sent b.before (b.first ∷ b.after)) in
    let last = s.ended (s.sent ++ b.before) b.first b.after are in
    record {
      run = record { given = s.given; exchanges = s.sent ++ s.late; rest = unread; handler = now.handler; ending = silence; written = written; reads = 100000 - left; pieces = s.read.pieces };
      consumed = s.read.consumed;
      reading = s.reading;
      at_most = s.few;
      chain = s.chain;
      ending = refl;
      appended = wrote_appends k.contents old.writer writer written false wrote;
      whole = λ other. absurd (other refl);
      counted = s.read.counted;
      reads_at_most = omega arith;
      given_is = s.read.given_is;
      reads_are = s.read.count;
      read = s.read.reads;
      needed = s.needed;
      wrote = wrote;
      memory = tt;
      ends = (
        cut.failed,
        wrote_made k.contents old.writer writer written false wrote,
        inl (record {
          before = s.sent ++ b.before;
          first = b.first;
          after = b.after;
          are = are;
          breaks = record {
            taken = b.taken;
            short = b.short;
            is = ap (λ (t : List ℕ). replies_of s.sent ++ t) b.is
                ∙ (sym (append_assoc (replies_of s.sent) (replies_of b.before) (take b.taken (bytes_of b.first.reply)))
                ∙ ap (λ (t : List ℕ). t ++ take b.taken (bytes_of b.first.reply)) (sym (replies_on s.sent b.before)));
          };
          left = held_from s.read.pieces b.before b.first b.after unread (subst (λ (es : List Exchange). IsHeld s.read.pieces es unread) b.are s.held);
          last = last.0;
          ended = last.1;
          silent = refl;
        }),
      );
    }

-- what is left over is what was called for
called_over : (pieces : List (List ℕ)) (unread : List ℕ) → IsLeftOver pieces unread → IsCalledFor pieces unread
called_over pieces unread (inl none) = inl none.0
called_over pieces unread (inr over) = inr (inl over)

-- between two requests the replies that wait weren't written whole
pub cut_between : {R W C H : Type 0} {k : Words R W C H} {old now : Sides R W C H} {unread waits : List ℕ} {room left served : ℕ}
    → Gathering k old now unread waits room left served → served ≤ 1000
    → (writer : Counted W) → IsCutShort k.contents now.writer writer waits
    → IsServed k old (record now { writer = writer }) WriteFault
cut_between s few writer cut =
    let count = s.count in
    cut_at (record {
      given = s.given;
      sent = s.sent;
      late = s.late;
      read = s.read;
      needed = called_over s.read.pieces _ s.over;
      held = s.held;
      reading = s.reading;
      few = omega arith;
      chain = s.chain;
      wrote = s.wrote;
      ended = λ before first after are. subst (λ (es : List Exchange). (last : Exchange) × EndedBy es last) (sym are) (all_ended before first after (subst (λ (es : List Exchange). All GoesOn es) are s.each));
    }) writer (rw s.waits_are at cut)

-- nor were they with the reply to the request that was handled
pub cut_reply : {R W C H : Type 0} {k : Words R W C H}
    {old now : Sides R W C H} {unread waits : List ℕ} {room left served : ℕ} {close : Bool} {reply : Reply}
    → Handled k old now unread waits room left served close reply → served < 1000
    → (writer : Counted W) → IsCutShort k.contents now.writer writer (waits ++ bytes_of reply)
    → IsServed k old (record now { writer = writer }) WriteFault
cut_reply {k = k} {old = old} {now = now} {unread = unread} {waits = waits} {reply = reply} h few writer cut =
    let all : (h.sent ++ h.late) ++ h.last ∷ [] ≡ h.sent ++ (h.late ++ h.last ∷ []) = append_assoc h.sent h.late (h.last ∷ []) in
    let count = h.count in
    let grown = count_push (h.sent ++ h.late) h.last in
    let same = ap length all in
    cut_at (record {
      given = h.given;
      sent = h.sent;
      late = h.late ++ h.last ∷ [];
      read = h.read;
      needed = inr (inl h.over);
      held = h.held;
      reading = subst (λ (es : List Exchange). Splits h.given (wires_of es) unread) all h.reading;
      few = omega arith;
      chain = subst (λ (es : List Exchange). Chain k.ticks k.handles 0 (old.clock, old.handler) es (now.clock, now.handler)) all h.chain;
      wrote = h.wrote;
      ended = λ before first after are. (h.last, record { before = h.sent ++ h.late; are = sym all; each = h.each });
    }) writer (rw (waits_push waits h.late h.last reply h.waits_are h.reply_is) at cut)

-- nor after it was added to them
pub cut_added : {R W C H : Type 0} {k : Words R W C H}
    {old now : Sides R W C H} {unread waits : List ℕ} {room left served : ℕ} {close : Bool} {reply : Reply}
    → Handled k old now unread waits room left served close reply → served < 1000
    → (mid : Counted W) (space : ℕ) (kept : List ℕ) → Adds k.contents space now.writer mid waits (bytes_of reply) kept
    → (writer : Counted W) → IsCutShort k.contents mid writer kept
    → IsServed k old (record now { writer = writer }) WriteFault
cut_added {W = W} {k = k} {waits = waits} {reply = reply} h few mid space kept (inl added) writer cut =
    cut_reply h few writer (subst (λ (w : Counted W). IsCutShort k.contents w writer (waits ++ bytes_of reply)) added.1 (rw added.2 at cut))
cut_added {k = k} h few mid space kept (inr added) writer cut = absurd (cut_nothing k.contents mid writer kept added.2 cut)

-- those that wait, the reply among them, were written whole
pub all_replied : {R W C H : Type 0} {k : Words R W C H}
    {old now : Sides R W C H} {unread waits : List ℕ} {room left served : ℕ} {close : Bool} {reply : Reply}
    → (h : Handled k old now unread waits room left served close reply)
    → (mid : Counted W) (space : ℕ) (kept : List ℕ) → Adds k.contents space now.writer mid waits (bytes_of reply) kept
    → (writer : Counted W) → Wrote k.contents mid writer kept true
    → Wrote k.contents old.writer writer (replies_of ((h.sent ++ h.late) ++ h.last ∷ [])) true
all_replied {W = W} {k = k} {old = old} {now = now} {waits = waits} {reply = reply} h mid space kept (inl added) writer sent =
    replies_sent k.contents old.writer now.writer writer h.sent h.late h.last waits reply h.waits_are h.reply_is h.wrote
    (subst (λ (w : Counted W). Wrote k.contents w writer (waits ++ bytes_of reply) true) added.1 (rw added.2 at sent))
all_replied {k = k} {old = old} {now = now} {waits = waits} {reply = reply} h mid space kept (inr added) writer sent =
    replies_sent k.contents old.writer now.writer writer h.sent h.late h.last waits reply h.waits_are h.reply_is h.wrote
    (subst (λ (t : List ℕ). Wrote k.contents now.writer writer t true) (append-nil (waits ++ bytes_of reply)) (wrote_on k.contents now.writer mid writer _ _ true added.1 (rw added.2 at sent)))

-- the run whose last request is the one that was handled
abbrev run_of : {R W C H : Type 0} {k : Words R W C H}
    {old now : Sides R W C H} {unread waits : List ℕ} {room left served : ℕ} {close : Bool} {reply : Reply}
    → Handled k old now unread waits room left served close reply → Run H
run_of {now = now} {unread = unread} {left = left} h =
    let es = (h.sent ++ h.late) ++ h.last ∷ [] in
    record { given = h.given; exchanges = es; rest = unread; handler = now.handler; ending = silence; written = replies_of es; reads = 100000 - left; pieces = h.read.pieces }

-- all replies were written whole, and the last one is a fixed one
pub fixed_reply : {R W C H : Type 0} {k : Words R W C H}
    {old now : Sides R W C H} {unread waits : List ℕ} {room left served : ℕ} {close : Bool} {reply : Reply}
    → (h : Handled k old now unread waits room left served close reply) → served < 1000
    → (writer : Counted W) → Wrote k.contents old.writer writer (replies_of ((h.sent ++ h.late) ++ h.last ∷ [])) true
    → is_made reply ≡ false → IsServed k old (record now { writer = writer }) Failed
fixed_reply {k = k} {old = old} h few writer wrote fixed =
    let es = (h.sent ++ h.late) ++ h.last ∷ [] in
    let count = h.count in
    record {
      run = run_of h;
      consumed = h.read.consumed;
      reading = h.reading;
      at_most = let n = count_push (h.sent ++ h.late) h.last in omega arith;
      chain = h.chain;
      ending = refl;
      appended = wrote_appends k.contents old.writer writer (replies_of es) true wrote;
      whole = λ _. no_ending es;
      counted = h.read.counted;
      reads_at_most = omega arith;
      given_is = h.read.given_is;
      reads_are = h.read.count;
      read = h.read.reads;
      needed = inr (inl h.over);
      wrote = wrote;
      memory = tt;
      ends = inl (record { last = h.last; ended = record { before = h.sent ++ h.late; are = refl; each = h.each }; silent = refl; fixed = ap is_made h.reply_is ∙ fixed; left = h.over });
    }

-- all replies were written whole, and the last request asked to close
pub asked_reply : {R W C H : Type 0} {k : Words R W C H}
    {old now : Sides R W C H} {unread waits : List ℕ} {room left served : ℕ} {close : Bool} {reply : Reply}
    → (h : Handled k old now unread waits room left served close reply) → served < 1000
    → (writer : Counted W) → Wrote k.contents old.writer writer (replies_of ((h.sent ++ h.late) ++ h.last ∷ [])) true
    → is_made reply ≡ true → close ≡ true → IsServed k old (record now { writer = writer }) Asked
asked_reply {k = k} {old = old} h few writer wrote made asks =
    let es = (h.sent ++ h.late) ++ h.last ∷ [] in
    let count = h.count in
    record {
      run = run_of h;
      consumed = h.read.consumed;
      reading = h.reading;
      at_most = let n = count_push (h.sent ++ h.late) h.last in omega arith;
      chain = h.chain;
      ending = refl;
      appended = wrote_appends k.contents old.writer writer (replies_of es) true wrote;
      whole = λ _. no_ending es;
      counted = h.read.counted;
      reads_at_most = omega arith;
      given_is = h.read.given_is;
      reads_are = h.read.count;
      read = h.read.reads;
      needed = inr (inl h.over);
      wrote = wrote;
      memory = tt;
      ends = record {
        last = h.last;
        ended = record { before = h.sent ++ h.late; are = refl; each = h.each };
        silent = refl;
        made = ap is_made h.reply_is ∙ made;
        asks = h.asks ∙ asks;
        left = h.over;
      };
    }

-- all 1,000 requests were answered
all_served : {R W C H : Type 0} {k : Words R W C H}
    {old now : Sides R W C H} {unread : List ℕ} {room left served : ℕ}
    → Serving k old now unread room left served → served ≡ 1000
    → IsServed k old now Served
all_served {k = k} {old = old} {now = now} {unread = unread} {left = left} s all =
    let count : length s.exchanges ≡ 1000 = s.count ∙ all in
    let some : 0 < length (wires_of s.exchanges) = let same = length-map s.exchanges (λ (e : Exchange). e.wire) in omega arith in
    let over = left_at_end s.read.pieces s.given unread (wires_of s.exchanges) s.over s.read.given_is s.reading some in
    record {
      run = record { given = s.given; exchanges = s.exchanges; rest = unread; handler = now.handler; ending = silence; written = replies_of s.exchanges; reads = 100000 - left; pieces = s.read.pieces };
      consumed = s.read.consumed;
      reading = s.reading;
      at_most = omega arith;
      chain = s.chain;
      ending = refl;
      appended = wrote_appends k.contents old.writer now.writer (replies_of s.exchanges) true s.wrote;
      whole = λ _. no_ending s.exchanges;
      counted = s.read.counted;
      reads_at_most = omega arith;
      given_is = s.read.given_is;
      reads_are = s.read.count;
      read = s.read.reads;
      needed = inr (inl over);
      wrote = s.wrote;
      memory = tt;
      ends = (s.each, count, refl, over);
    }

-- ended by a reply, or cut short, by what became of those that wait
pub ends_fixed : {R W C H : Type 0} {k : Words R W C H}
    {old now : Sides R W C H} {unread waits : List ℕ} {room left served : ℕ} {close : Bool} {reply : Reply}
    → Handled k old now unread waits room left served close reply → served < 1000
    → (mid : Counted W) (space : ℕ) (kept : List ℕ) → Adds k.contents space now.writer mid waits (bytes_of reply) kept
    → (writer : Counted W) (end : StreamEnd) → SendsLast k.contents mid writer kept Failed end
    → is_made reply ≡ false → IsServed k old (record now { writer = writer }) end
ends_fixed h few mid space kept added writer end (inl sent) fixed = rw sent.0 (fixed_reply h few writer (all_replied h mid space kept added writer sent.1) fixed)
ends_fixed h few mid space kept added writer end (inr cut) fixed = rw cut.0 (cut_added h few mid space kept added writer cut.1)

pub ends_asked : {R W C H : Type 0} {k : Words R W C H}
    {old now : Sides R W C H} {unread waits : List ℕ} {room left served : ℕ} {close : Bool} {reply : Reply}
    → Handled k old now unread waits room left served close reply → served < 1000
    → (mid : Counted W) (space : ℕ) (kept : List ℕ) → Adds k.contents space now.writer mid waits (bytes_of reply) kept
    → (writer : Counted W) (end : StreamEnd) → SendsLast k.contents mid writer kept Asked end
    → is_made reply ≡ true → close ≡ true → IsServed k old (record now { writer = writer }) end
ends_asked h few mid space kept added writer end (inl sent) made asks = rw sent.0 (asked_reply h few writer (all_replied h mid space kept added writer sent.1) made asks)
ends_asked h few mid space kept added writer end (inr cut) made asks = rw cut.0 (cut_added h few mid space kept added writer cut.1)

-- all 1,000 requests were handled
pub served_all : {R W C H : Type 0} {k : Words R W C H}
    {old now : Sides R W C H} {unread waits : List ℕ} {room left served : ℕ} → Gathering k old now unread waits room left served → served ≡ 1000
    → (writer : Counted W) (end : StreamEnd) → SendsLast k.contents now.writer writer waits Served end
    → IsServed k old (record now { writer = writer }) end
served_all s all writer end (inl sent) = rw sent.0 (all_served (all_sent s writer sent.1) all)
served_all s all writer end (inr cut) = rw cut.0 (cut_between s (omega arith) writer cut.1)
