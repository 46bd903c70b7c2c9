-- Replies that wait, and what is written of them.
use Rattle.std.proofs.Common.{◌≡◌, ◌≢◌, ℕ, ◌+◌, ◌-◌, ◌<◌, ◌≤◌, Bool, true, false, List, [], ◌∷◌, ◌++◌, length, take, Option, arith, refl, sym, ap, subst, ◌∙◌, inl, inr, append-nil, append_assoc}
use Rattle.std.specs.Prelude.{⊤}
use Rattle.std.specs.List.{FoldsTo, concat, flat_map}
use Rattle.std.proofs.Math.Seq.{take-append-add}
use Rattle.std.proofs.lemmas.Bool.{cases_lt}
use Rattle.std.proofs.lemmas.List.{length-append, take-append-le, map-append}
use Rattle.std.proofs.lemmas.Grind.{flat_map-append}
use Rattle.std.specs.Io.KnownBytes.{Appends}
use Rattle.counted_io.specs.declared.counted.Counted.{Counted}
use Rattle.counted_io.specs.Counted.{calls_of, known_bytes, HasMade}
use Rattle.counted_io.specs.Chains.{TakesSome, Wrote, IsCutShort, MadeWrites}
use Rattle.counted_io.proofs.Calls.{made_none, made_more, made_on}
use Rattle.counted_io.proofs.Chaining.{wrote_on, wrote_appends}
use Rattle.http_wire.specs.declared.reading.StopCause.{StopCause}
use Rattle.http_wire.specs.declared.reading.StopCause.TheVariants.{Closed, Cut, ReadsSpent, ReadFault, NoMemory, Refused, Head, WriteFault}
use Rattle.http_wire.specs.Replies.{HoldsOrSends, SendsBefore}
use Rattle.http_wire.specs.ReplyText.{bytes_of}
use Rattle.http_wire.specs.Wire.{wire_bytes}
use Rattle.http_wire.specs.Stream.{Exchange, wires_of, replies_of, HasNotReadOn}

-- the number of the writes that took something
took_made : {W : Type 0} (contents : W → Option (List ℕ)) (old mid : Counted W) (pieces : List (List ℕ)) → FoldsTo (TakesSome contents) old pieces mid
    → HasMade (length pieces) (calls_of old) (calls_of mid)
took_made contents old mid [] took = rw took (made_none _)
took_made contents old mid (p ∷ ps) took =
    let one : HasMade 1 (calls_of old) (calls_of took.0) = rw took.1.0.called (made_more 0 _ _ (made_none _)) in
    let sum : 1 + length ps ≡ length (p ∷ ps) = omega arith in
    subst (λ (n : ℕ). HasMade n (calls_of old) (calls_of mid)) sum (made_on 1 (length ps) _ _ _ one (took_made contents took.0 mid ps took.2))

-- the number of all writes of a text
pub wrote_made : {W : Type 0} (contents : W → Option (List ℕ)) (old new : Counted W) (text : List ℕ) (whole : Bool) → Wrote contents old new text whole → MadeWrites old new whole
wrote_made contents old new text true w = record { writes = length w.pieces; made = rw w.last (took_made contents old w.mid w.pieces w.took); some = λ e. absurd (let never : ⊥ = cc in never) }
wrote_made contents old new text false w =
    record { writes = length w.pieces + 1; made = rw w.last.called (made_more (length w.pieces) _ _ (took_made contents old w.mid w.pieces w.took)); some = λ e. omega arith }

-- a text is cut short where its front is
pub cut_front : {W : Type 0} (contents : W → Option (List ℕ)) (old new : Counted W) (text more : List ℕ) → IsCutShort contents old new text
    → IsCutShort contents old new (text ++ more)
cut_front contents old new text more cut =
    let short = cut.short in
    let size = length-append text more in
    let same : take cut.taken text ≡ take cut.taken (text ++ more) = sym (take-append-le cut.taken text more (omega arith)) in
    record {
      taken = cut.taken;
      short = omega arith;
      appended = subst (λ (b : List ℕ). Appends (known_bytes contents old) (known_bytes contents new) b) same cut.appended;
      failed = cut.failed;
      wrote = subst (λ (b : List ℕ). Wrote contents old new b false) same cut.wrote;
    }

-- and where it is after its front was written
pub cut_behind : {W : Type 0} (contents : W → Option (List ℕ)) (old now new : Counted W) (text more : List ℕ) → Wrote contents old now text true
    → IsCutShort contents now new more → IsCutShort contents old new (text ++ more)
cut_behind contents old now new text more first cut =
    let short = cut.short in
    let size = length-append text more in
    let same : text ++ take cut.taken more ≡ take (length text + cut.taken) (text ++ more) = sym (take-append-add text more cut.taken) in
    let wrote = wrote_on contents old now new text (take cut.taken more) false first cut.wrote in
    record {
      taken = length text + cut.taken;
      short = omega arith;
      appended = subst (λ (b : List ℕ). Appends (known_bytes contents old) (known_bytes contents new) b) same (wrote_appends contents old new _ false wrote);
      failed = cut.failed;
      wrote = subst (λ (b : List ℕ). Wrote contents old new b false) same wrote;
    }

-- of nothing there is no part
pub cut_nothing : {W : Type 0} (contents : W → Option (List ℕ)) (old new : Counted W) (text : List ℕ) → text ≡ [] → IsCutShort contents old new text → ⊥
cut_nothing contents old new text none cut = let short = cut.short in let size = ap length none in omega arith

-- of nothing no write is made
pub wrote_none : {W : Type 0} (contents : W → Option (List ℕ)) (old new : Counted W) (text : List ℕ) → text ≡ [] → Wrote contents old new text true → new ≡ old
wrote_none contents old new text none w = w.last ∙ by_pieces w.pieces w.took (w.text_is ∙ none)
  where
    by_pieces : (pieces : List (List ℕ)) → FoldsTo (TakesSome contents) old pieces w.mid → concat pieces ≡ [] → w.mid ≡ old
    by_pieces [] took empty = sym took
    by_pieces (p ∷ ps) took empty =
        let size = ap length empty in
        let both = length-append p (concat ps) in
        let some = took.1.1 in
        absurd (let never : ⊥ = omega arith in never)

-- what waits still is written, or all was before
pub sends_on : {W : Type 0} (contents : W → Option (List ℕ)) (old now new : Counted W) (waits left : List ℕ) (x y : ℕ)
    → HoldsOrSends contents old now waits left x y → Wrote contents now new left true → Wrote contents old new waits true
sends_on contents old now new waits left x y (inl h) sent = rw (sym h.0, sym h.1) sent
sends_on contents old now new waits left x y (inr h) sent =
    let text : waits ++ left ≡ waits = ap (λ (b : List ℕ). waits ++ b) h.1 ∙ append-nil waits in
    subst (λ (b : List ℕ). Wrote contents old new b true) text (wrote_on contents old now new waits left true h.0 sent)

-- what waits still is cut short: no read was made
pub cuts_on : {W : Type 0} (contents : W → Option (List ℕ)) (old now new : Counted W) (waits left : List ℕ) (x y : ℕ)
    → HoldsOrSends contents old now waits left x y → IsCutShort contents now new left → IsCutShort contents old new waits × (y ≡ x)
cuts_on contents old now new waits left x y (inl h) cut = (rw (sym h.0, sym h.1) cut, h.2)
cuts_on contents old now new waits left x y (inr h) cut = absurd (cut_nothing contents now new left h.1 cut)

-- what became of those that wait, where it was no write that stopped the reading
pub sends_before : {W : Type 0} (contents : W → Option (List ℕ)) (old new : Counted W) (waits left : List ℕ) (x y : ℕ) (why : StopCause) → why ≢ WriteFault
    → HoldsOrSends contents old new waits left x y → SendsBefore contents old new waits left x y why
sends_before contents old new waits left x y Closed other h = h
sends_before contents old new waits left x y Cut other h = h
sends_before contents old new waits left x y ReadsSpent other h = h
sends_before contents old new waits left x y ReadFault other h = h
sends_before contents old new waits left x y NoMemory other h = h
sends_before contents old new waits left x y (Refused e) other h = h
sends_before contents old new waits left x y (Head target) other h = h
sends_before contents old new waits left x y WriteFault other h = absurd (other refl)

-- the first of some replies of which not all is taken, where not all is taken of them
pub record Broken (es : List Exchange) (n : ℕ) : Type 0 where
  pub before : List Exchange
  pub first : Exchange
  pub after : List Exchange
  pub are : es ≡ before ++ first ∷ after
  pub taken : ℕ
  pub short : taken < length (bytes_of first.reply)
  pub is : take n (replies_of es) ≡ replies_of before ++ take taken (bytes_of first.reply)

pub broken : (es : List Exchange) (n : ℕ) → n < length (replies_of es) → Broken es n
broken [] n short = absurd (let never : ⊥ = omega (arith, short) in never)
broken (e ∷ es) n short =
    elim (cases_lt n (length (bytes_of e.reply))) [
      | inl lt ↦ record {
        before = [];
        first = e;
        after = es;
        are = refl;
        taken = n;
        short = lt;
        is = take-append-le n (bytes_of e.reply) (replies_of es) (omega arith);
      }
      | inr ge ↦ beyond (n - length (bytes_of e.reply)) (omega arith) (broken es)
    ]
  where
    beyond : (m : ℕ) → n ≡ length (bytes_of e.reply) + m → ((k : ℕ) → k < length (replies_of es) → Broken es k) → Broken (e ∷ es) n
    beyond m is later =
        let size = length-append (bytes_of e.reply) (replies_of es) in
        let b = later m (omega arith) in
        record {
          before = e ∷ b.before;
          first = b.first;
          after = b.after;
          are = ap (λ (xs : List Exchange). e ∷ xs) b.are;
          taken = b.taken;
          short = b.short;
          is =
              ap (λ (k : ℕ). take k (bytes_of e.reply ++ replies_of es)) is ∙ (take-append-add (bytes_of e.reply) (replies_of es) m
              ∙ (ap (λ (xs : List ℕ). bytes_of e.reply ++ xs) b.is ∙ sym (append_assoc (bytes_of e.reply) (replies_of b.before) (take b.taken (bytes_of b.first.reply)))));
        }

-- no read was made once the first of these requests had come whole
abbrev pub IsHeld : List (List ℕ) → List Exchange → List ℕ → Type 0
IsHeld pieces [] rest = ⊤
IsHeld pieces (e ∷ es) rest = HasNotReadOn pieces (flat_map wire_bytes (wires_of es) ++ rest)

-- nor once one of those after it had
unread_on : (pieces : List (List ℕ)) (less more : List ℕ) → length less ≤ length more → HasNotReadOn pieces more → HasNotReadOn pieces less
unread_on pieces less more fewer h = record { before = h.before; last = h.last; are = h.are; over = let over = h.over in omega arith }

-- the bytes of requests and of further ones
pub wires_on : (es more : List Exchange) → flat_map wire_bytes (wires_of (es ++ more)) ≡ flat_map wire_bytes (wires_of es) ++ flat_map wire_bytes (wires_of more)
wires_on es more = ap (flat_map wire_bytes) (map-append (λ (x : Exchange). x.wire) es more) ∙ flat_map-append wire_bytes (wires_of es) (wires_of more)

pub held_from : (pieces : List (List ℕ)) (before : List Exchange) (first : Exchange) (after : List Exchange) (rest : List ℕ)
    → IsHeld pieces (before ++ first ∷ after) rest → HasNotReadOn pieces (flat_map wire_bytes (wires_of after) ++ rest)
held_from pieces [] first after rest held = held
held_from pieces (b ∷ bs) first after rest held =
    let all : flat_map wire_bytes (wires_of (bs ++ first ∷ after)) ≡ flat_map wire_bytes (wires_of bs) ++ flat_map wire_bytes (wires_of (first ∷ after)) = wires_on bs (first ∷ after) in
    let size = ap length all ∙ length-append (flat_map wire_bytes (wires_of bs)) (flat_map wire_bytes (wires_of (first ∷ after))) in
    let one = length-append (wire_bytes first.wire) (flat_map wire_bytes (wires_of after)) in
    let long = length-append (flat_map wire_bytes (wires_of (bs ++ first ∷ after))) rest in
    let short = length-append (flat_map wire_bytes (wires_of after)) rest in
    unread_on pieces _ _ (omega arith) held

-- one request more came by the bytes that were there
pub held_more : (pieces : List (List ℕ)) (late : List Exchange) (e : Exchange) (unread rest : List ℕ) → unread ≡ wire_bytes e.wire ++ rest
    → IsHeld pieces late unread → HasNotReadOn pieces rest → IsHeld pieces (late ++ e ∷ []) rest
held_more pieces [] e unread rest is held over = over
held_more pieces (x ∷ late) e unread rest is held over =
    let bytes : flat_map wire_bytes (wires_of late) ++ unread ≡ flat_map wire_bytes (wires_of (late ++ e ∷ [])) ++ rest =
    ap (λ (b : List ℕ). flat_map wire_bytes (wires_of late) ++ b) is
    ∙ (sym (append_assoc (flat_map wire_bytes (wires_of late)) (wire_bytes e.wire) rest)
    ∙ ap (λ (b : List ℕ). b ++ rest) (sym (wires_on late (e ∷ []) ∙ ap (λ (b : List ℕ). flat_map wire_bytes (wires_of late) ++ b) (append-nil (wire_bytes e.wire))))) in
    subst (λ (b : List ℕ). HasNotReadOn pieces b) bytes held
