-- Bytes are whole requests and a rest in one way.
use Rattle.std.proofs.Common.{◌≡◌, ℕ, ◌≤◌, List, [], ◌∷◌, ◌++◌, length, take, drop, refl, sym, ◌∙◌, ap, append_assoc, arith, Ok, Result}
use Rattle.std.proofs.Math.Seq.{take-append_seam, drop-append_seam}
use Rattle.std.specs.List.{flat_map}
use Rattle.std.proofs.lemmas.List.Elements.{All-head, All-tail}
use Rattle.httparse.specs.Grammar.{RequestHead, print_request}
use Rattle.httparse.proofs.GrammarLemmas.{request_unique}
use Rattle.http_wire.specs.declared.framing.FramingError.{FramingError}
use Rattle.http_wire.specs.Framing.{body_length}
use Rattle.http_wire.specs.Wire.{WireRequest, IsWireRequest, HasHead, wire_bytes, fields_of, Splits}
use Rattle.http_wire.specs.OneReading.{HasNoWireRequest}

-- one head stands in front
pub one_head : (bytes : List ℕ) (h k : RequestHead) (r q : List ℕ) → HasHead bytes h r → HasHead bytes k q → (h ≡ k) × (r ≡ q)
one_head bytes h k r q a b = request_unique bytes h k r q (a.good.head, a.bytes_are) (b.good.head, b.bytes_are)

-- the head of a request in front
pub wire_head : (bytes : List ℕ) (w : WireRequest) (more : List ℕ) → IsWireRequest w → bytes ≡ wire_bytes w ++ more → HasHead bytes w.head (w.body ++ more)
wire_head bytes w more is at = record { good = is.head; bytes_are = at ∙ append_assoc (print_request w.head) w.body more }

-- a good length is one number
pub same_length : (said : Result ℕ FramingError) (m n : ℕ) → said ≡ Ok m → said ≡ Ok n → m ≡ n
same_length said m n p q = cc

-- one request stands in front
wire_first : (bytes : List ℕ) (w v : WireRequest) (r q : List ℕ) → IsWireRequest w → IsWireRequest v
    → bytes ≡ wire_bytes w ++ r → bytes ≡ wire_bytes v ++ q → (w ≡ v) × (r ≡ q)
wire_first bytes w v r q iw iv ew ev =
    let same = one_head bytes w.head v.head (w.body ++ r) (v.body ++ q) (wire_head bytes w r iw ew) (wire_head bytes v q iv ev) in
    let len : length w.body ≡ length v.body = same_length _ _ _ iw.body (ap (λ h. body_length (fields_of h)) same.0 ∙ iv.body) in
    let body : w.body ≡ v.body =
    sym (take-append_seam w.body r) ∙ (ap (take (length w.body)) same.1 ∙ (ap (λ (n : ℕ). take n (v.body ++ q)) len ∙ take-append_seam v.body q)) in
    let rest : r ≡ q =
    sym (drop-append_seam w.body r) ∙ (ap (drop (length w.body)) same.1 ∙ (ap (λ (n : ℕ). drop n (v.body ++ q)) len ∙ drop-append_seam v.body q)) in
    (λ i. record { head = same.0 i; body = body i }, rest)

-- the first of the requests
pub first_of : (bytes : List ℕ) (w : WireRequest) (ws : List WireRequest) (r : List ℕ) → Splits bytes (w ∷ ws) r → bytes ≡ wire_bytes w ++ (flat_map wire_bytes ws ++ r)
first_of bytes w ws r s = s.whole ∙ append_assoc (wire_bytes w) (flat_map wire_bytes ws) r

-- the others
others_of : (bytes : List ℕ) (w : WireRequest) (ws : List WireRequest) (r : List ℕ) → Splits bytes (w ∷ ws) r → Splits (flat_map wire_bytes ws ++ r) ws r
others_of bytes w ws r s = record { whole = refl; each = All-tail IsWireRequest w ws s.each }

-- the same bytes are the same requests and the same rest
pub splits_unique : (bytes : List ℕ) (ws vs : List WireRequest) (r q : List ℕ) → Splits bytes ws r → Splits bytes vs q
    → HasNoWireRequest r → HasNoWireRequest q → (ws ≡ vs) × (r ≡ q)
splits_unique bytes [] [] r q a b nr nq = (refl, sym a.whole ∙ b.whole)
splits_unique bytes [] (v ∷ vs) r q a b nr nq =
    absurd (nr v (flat_map wire_bytes vs ++ q) (All-head IsWireRequest v vs b.each) (sym a.whole ∙ first_of bytes v vs q b))
splits_unique bytes (w ∷ ws) [] r q a b nr nq =
    absurd (nq w (flat_map wire_bytes ws ++ r) (All-head IsWireRequest w ws a.each) (sym b.whole ∙ first_of bytes w ws r a))
splits_unique bytes (w ∷ ws) (v ∷ vs) r q a b nr nq =
    let first = wire_first bytes w v (flat_map wire_bytes ws ++ r) (flat_map wire_bytes vs ++ q) (All-head IsWireRequest w ws a.each) (All-head IsWireRequest v vs b.each)
    (first_of bytes w ws r a) (first_of bytes v vs q b) in
    let more = splits_unique (flat_map wire_bytes ws ++ r) ws vs r q (others_of bytes w ws r a) (record { whole = first.1; each = All-tail IsWireRequest v vs b.each }) nr nq in
    (λ i. first.0 i ∷ more.0 i, more.1)

-- fewer requests begin the list of more
pub splits_front : (bytes : List ℕ) (ws vs : List WireRequest) (r q : List ℕ) → Splits bytes ws r → Splits bytes vs q
    → length ws ≤ length vs → ws ≡ take (length ws) vs
splits_front bytes [] vs r q a b fewer = refl
splits_front bytes (w ∷ ws) [] r q a b fewer = absurd (omega arith)
splits_front bytes (w ∷ ws) (v ∷ vs) r q a b fewer =
    let first = wire_first bytes w v (flat_map wire_bytes ws ++ r) (flat_map wire_bytes vs ++ q) (All-head IsWireRequest w ws a.each) (All-head IsWireRequest v vs b.each)
    (first_of bytes w ws r a) (first_of bytes v vs q b) in
    let more = splits_front (flat_map wire_bytes ws ++ r) ws vs r q (others_of bytes w ws r a) (record { whole = first.1; each = All-tail IsWireRequest v vs b.each }) (omega arith) in
    λ i. first.0 i ∷ more i
