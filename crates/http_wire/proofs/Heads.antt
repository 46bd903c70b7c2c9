-- A head in a window at the front of a buffer.
use Rattle.std.proofs.Common.{◌≡◌, ℕ, ◌+◌, ◌-◌, ◌<◌, ◌≤◌, List, [], ◌++◌, length, drop, take, arith, sym, ◌∙◌, ap, subst, append_assoc, append-nil, inl, inr, Ok}
use Rattle.std.proofs.lemmas.List.{take-append-drop, length-append, length-drop, length-take-le, length-map, nil_from_length}
use Rattle.std.proofs.Math.Seq.{drop-append_seam}
use Rattle.httparse.specs.Grammar.{RequestHead, print_request, ReadsRequest, HasNoRequest, MayBecomeRequest, Field}
use Rattle.httparse.specs.declared.spans.HeaderSpan.{HeaderSpan}
use Rattle.httparse.specs.declared.spans.RequestSpans.{RequestSpans}
use Rattle.httparse.specs.Spans.{AreFieldsAt, IsRequestWithin, IsRequestAt}
use Rattle.httparse.proofs.GrammarLemmas.{ReadsRequest-append}
use Rattle.http_wire.specs.Framing.{body_length}
use Rattle.http_wire.specs.Wire.{HasHead, IsHeadMethod, IsOpen, IsOpenBelow, IsWireRequest, wire_bytes, fields_of}

-- a head that stands in the window stands in the buffer, and the rest follows it
head_in : (buf : List ℕ) (n len : ℕ) (h : RequestHead) (rest : List ℕ) → ReadsRequest (take n buf) h rest
    → len ≡ length (print_request h) → buf ≡ print_request h ++ drop len buf
head_in buf n len h rest reads len_is =
    let whole = ReadsRequest-append (take n buf) h rest (drop n buf) reads in
    let at : ReadsRequest buf h (rest ++ drop n buf) = subst (λ (b : List ℕ). ReadsRequest b h (rest ++ drop n buf)) (take-append-drop n buf) whole in
    let rest_is : drop len buf ≡ rest ++ drop n buf =
    ap (λ (k : ℕ). drop k buf) len_is ∙ (ap (drop (length (print_request h))) at.1 ∙ drop-append_seam (print_request h) (rest ++ drop n buf)) in
    subst (λ (r : List ℕ). buf ≡ print_request h ++ r) (sym rest_is) at.1

-- so many fields as there are headers
count_fields : (buf : List ℕ) (headers : List HeaderSpan) (count : ℕ) (fields : List Field) → AreFieldsAt buf headers count fields
    → count ≤ length headers → length fields ≡ count
count_fields buf headers count fields are fits =
    let e = ap length are in
    let f = simp length-map at e in
    sym f ∙ length-take-le count headers fits

-- what the parser found is a good head
pub good_head : (buf : List ℕ) (m : ℕ) (headers : List HeaderSpan) (r : RequestSpans) (h : RequestHead)
    → IsRequestWithin (take m buf) headers r → IsRequestAt (take m buf) headers r h → length headers ≤ 64
    → m ≤ 8192 → m ≤ length buf → HasHead buf h (drop r.len buf)
good_head buf m headers r h within at room small fits =
    let count : length h.fields ≡ r.headers = count_fields (take m buf) headers r.headers h.fields at.fields within.section.count_fits in
    let size : length (take m buf) ≡ m = length-take-le m buf fits in
    record {
      good = record {
        head = at.reads.0;
        fields = omega (arith, within.section.count_fits);
        size = omega (arith, within.section.len_fits, at.len);
      };
      bytes_are = head_in buf m r.len h _ at.reads at.len;
    }

-- a head that isn't whole stays so until one byte more is there
pub open_head : (bytes : List ℕ) → HasNoRequest bytes → MayBecomeRequest bytes → length bytes < 8192 → IsOpenBelow (length bytes + 1) bytes
open_head bytes none may size =
    record {
      below = omega arith;
      bound = omega arith;
      still = λ more short.
          let nothing : more ≡ [] = nil_from_length more (omega (arith, simp length-append at short)) in
          let same : bytes ≡ bytes ++ more = sym (ap (λ (m : List ℕ). bytes ++ m) nothing ∙ append-nil bytes) in
          subst IsOpen same (inl (record { none = none; may = may; size = size }));
    }

-- a body that isn't whole stays so until its length is there
pub open_body : (bytes : List ℕ) (len n : ℕ) (h : RequestHead) → HasHead bytes h (drop len bytes) → len ≡ length (print_request h)
    → ¬ (IsHeadMethod h) → body_length (fields_of h) ≡ Ok n → n ≤ 65536 → len ≤ length bytes → length bytes - len < n → IsOpenBelow (len + n) bytes
open_body bytes len n h has len_is method says small fits short =
    record {
      below = omega arith;
      bound = let size = has.good.size in omega arith;
      still = λ more below.
          let joined : bytes ++ more ≡ print_request h ++ (drop len bytes ++ more) =
          ap (λ (b : List ℕ). b ++ more) has.bytes_are ∙ append_assoc (print_request h) (drop len bytes) more in
          let rest : length (drop len bytes ++ more) < n =
          let whole : length bytes + length more < len + n = simp length-append at below in
          simp (length-append, length-drop) (omega arith) in
          inr (h, drop len bytes ++ more, n, record { good = has.good; bytes_are = joined }, method, says, rest);
    }

-- a head and a body of so many bytes, and what follows
pub body_in : (buf : List ℕ) (len n : ℕ) (h : RequestHead) → buf ≡ print_request h ++ drop len buf
    → buf ≡ (print_request h ++ take n (drop len buf)) ++ drop n (drop len buf)
body_in buf len n h reads =
    reads ∙ (ap (λ (r : List ℕ). print_request h ++ r) (sym (take-append-drop n (drop len buf)))
    ∙ sym (append_assoc (print_request h) (take n (drop len buf)) (drop n (drop len buf))))

-- the length of the body that is taken
pub body_len : (buf : List ℕ) (len n : ℕ) → n ≤ length buf - len → length (take n (drop len buf)) ≡ n
body_len buf len n long = length-take-le n (drop len buf) (simp length-drop long)

-- the head's length and the body's
pub wire_len : (buf : List ℕ) (len n : ℕ) (h : RequestHead) → len ≡ length (print_request h) → n ≤ length buf - len
    → len + n ≡ length (wire_bytes (record { head = h; body = take n (drop len buf) }))
wire_len buf len n h is long =
    let body = body_len buf len n long in
    simp length-append (omega (arith, body))

-- what the parser found, and the body behind it, are a request on the wire
pub wire_of : (buf : List ℕ) (len n : ℕ) (h : RequestHead) → HasHead buf h (drop len buf) → ¬ (IsHeadMethod h)
    → body_length (fields_of h) ≡ Ok n → n ≤ length buf - len → IsWireRequest (record { head = h; body = take n (drop len buf) })
wire_of buf len n h has method says long =
    record { head = has.good; method = method; body = says ∙ ap Ok (sym (body_len buf len n long)) }
