-- What stands where no whole request does is one thing.
use Rattle.std.proofs.Common.{◌≡◌, ℕ, ◌+◌, ◌≤◌, List, [], ◌++◌, length, take, drop, refl, sym, ◌∙◌, ap, subst, append_assoc, arith, inl, inr, Ok, Err, Result}
use Rattle.std.specs.Prelude.{◌⊎◌}
use Rattle.std.proofs.Math.Seq.{take-append_seam}
use Rattle.std.proofs.lemmas.List.{take_all, take-append-le, take-append-drop, length-append}
use Rattle.httparse.specs.Grammar.{RequestHead, print_request, NeverHasRequest, MayBecomeRequest, EndsInTarget}
use Rattle.httparse.specs.Spans.{RequestExceeds}
use Rattle.http_wire.specs.declared.framing.FramingError.{FramingError}
use Rattle.http_wire.specs.declared.framing.FramingError.TheVariants.{BadHead, HeadTooLarge, TransferEncoding, BadLength, BodyTooLarge}
use Rattle.http_wire.specs.Framing.{body_length}
use Rattle.http_wire.specs.Wire.{wire_bytes, fields_of, HasHead, IsBadHead, IsHeadTooLarge, HasBadBody, IsRefusedFor, IsHeadRequest, IsHeadOpen, IsOpen}
use Rattle.http_wire.specs.OneReading.{HasNoWireRequest, Standing, unfinished, refused, head_for, StandsIn, IsUnsettled}
use Rattle.http_wire.proofs.Unique.{one_head, wire_head, same_length}

-- a list that is no longer than the other's front is its front
pub front_of : (front more p r : List ℕ) → front ++ more ≡ p ++ r → length p ≤ length front → front ≡ p ++ drop (length p) front
front_of front more p r same short =
    let first : take (length p) front ≡ p = sym (take-append-le (length p) front more short) ∙ (ap (take (length p)) same ∙ take-append_seam p r) in
    sym (take-append-drop (length p) front) ∙ ap (λ (xs : List ℕ). xs ++ drop (length p) front) first

-- a refused head is no good one
bad_no_head : (bytes : List ℕ) (h : RequestHead) (rest : List ℕ) → IsBadHead bytes → HasHead bytes h rest → ⊥
bad_no_head bytes h rest bad has =
    let over = bad.never_good bad.more h rest (has.good.head, sym bad.bytes_are ∙ has.bytes_are) in
    let few = has.good.fields in
    omega arith

-- a head that is too long is no good one
large_no_head : (bytes : List ℕ) (h : RequestHead) (rest : List ℕ) → IsHeadTooLarge bytes → HasHead bytes h rest → ⊥
large_no_head bytes h rest large has =
    let size = large.size in
    let small = has.good.size in
    let at = front_of large.front large.more (print_request h) rest (sym large.bytes_are ∙ has.bytes_are) (omega arith) in
    large.none h (drop (length (print_request h)) large.front) (has.good.head, at)

-- a head that isn't whole is no good one
open_no_head : (bytes : List ℕ) (h : RequestHead) (rest : List ℕ) → IsHeadOpen bytes → HasHead bytes h rest → ⊥
open_no_head bytes h rest opened has = opened.none h rest (has.good.head, has.bytes_are)

-- no length and no fault at once
no_both : (said : Result ℕ FramingError) (n : ℕ) (e : FramingError) → said ≡ Ok n → said ≡ Err e → ⊥
no_both said n e p q = cc

-- one fault
same_fault : (said : Result ℕ FramingError) (d e : FramingError) → said ≡ Err d → said ≡ Err e → d ≡ e
same_fault said d e p q = cc

-- what the head in front says of the body is said by each that stands there
said_too : (bytes : List ℕ) (h k : RequestHead) (r q : List ℕ) (said : Result ℕ FramingError) → HasHead bytes h r → HasHead bytes k q
    → body_length (fields_of k) ≡ said → body_length (fields_of h) ≡ said
said_too bytes h k r q said x y says = ap (λ g. body_length (fields_of g)) (one_head bytes h k r q x y).0 ∙ says

-- what a head can't be said of has no request in front
no_head_no_wire : (bytes : List ℕ) → ((h : RequestHead) (rest : List ℕ) → HasHead bytes h rest → ⊥) → HasNoWireRequest bytes
no_head_no_wire bytes none w more is at = none w.head (w.body ++ more) (wire_head bytes w more is at)

fault_no_wire : (bytes : List ℕ) (e : FramingError) → HasBadBody bytes e → HasNoWireRequest bytes
fault_no_wire bytes e bad w more is at =
    no_both _ _ e is.body (said_too bytes w.head bad.0 _ _ _ (wire_head bytes w more is at) bad.2 bad.3)

refused_no_wire : (bytes : List ℕ) (e : FramingError) → IsRefusedFor e bytes → HasNoWireRequest bytes
refused_no_wire bytes BadHead bad = no_head_no_wire bytes (λ h rest has. bad_no_head bytes h rest bad has)
refused_no_wire bytes HeadTooLarge large = no_head_no_wire bytes (λ h rest has. large_no_head bytes h rest large has)
refused_no_wire bytes TransferEncoding bad = fault_no_wire bytes _ bad
refused_no_wire bytes BadLength bad = fault_no_wire bytes _ bad
refused_no_wire bytes BodyTooLarge bad = fault_no_wire bytes _ bad

open_no_wire : (bytes : List ℕ) → IsOpen bytes → HasNoWireRequest bytes
open_no_wire bytes (inl opened) = no_head_no_wire bytes (λ h rest has. open_no_head bytes h rest opened has)
open_no_wire bytes (inr (h, rest, n, has, method, says, short)) =
    λ w more is at.
    let here = wire_head bytes w more is at in
    let same = one_head bytes w.head h _ _ here has in
    let len : length w.body ≡ n = same_length _ _ _ is.body (said_too bytes w.head h _ _ _ here has says) in
    let whole : length w.body + length more ≡ length rest = sym (length-append w.body more) ∙ ap length same.1 in
    omega arith

head_no_wire : (bytes target : List ℕ) → IsHeadRequest target bytes → HasNoWireRequest bytes
head_no_wire bytes target (h, rest, n, has, method, path, says) =
    λ w more is at. is.method (ap (λ g. g.method) (one_head bytes w.head h _ _ (wire_head bytes w more is at) has).0 ∙ method)

-- no request stands in front of what a stream ends with
pub standing_no_wire : (bytes : List ℕ) (s : Standing) → StandsIn bytes s → HasNoWireRequest bytes
standing_no_wire bytes unfinished stands = open_no_wire bytes stands
standing_no_wire bytes (refused e) stands = refused_no_wire bytes e stands
standing_no_wire bytes (head_for target) stands = head_no_wire bytes target stands

-- a head is some bytes long
pub empty_no_wire : HasNoWireRequest []
unfolding print_request
empty_no_wire w more is at =
    let none : 0 ≡ length (wire_bytes w ++ more) = ap length at in
    absurd (omega (arith, simp length-append at none))

-- what a refused front is, in bytes that go on from it and may still be a head
clash : (bytes front more : List ℕ) → bytes ≡ front ++ more → (NeverHasRequest front ⊎ RequestExceeds 64 front) → MayBecomeRequest bytes
    → RequestExceeds 64 bytes ⊎ EndsInTarget bytes
clash bytes front more is (inr (start, rest, joined, h, reads, many)) may =
    inl (start, rest ++ more, is ∙ (ap (λ (xs : List ℕ). xs ++ more) joined ∙ append_assoc start rest more), h, reads, many)
clash bytes front more is (inl never) (inr target) = inr target
clash bytes front more is (inl never) (inl (next, h, reads)) =
    absurd (never (more ++ next) h [] (reads.0, sym (append_assoc front more next) ∙ (ap (λ (xs : List ℕ). xs ++ next) (sym is) ∙ reads.1)))

-- the same in the first 8,192 bytes
unsettled : (bytes window front more : List ℕ) → window ≡ take 8192 bytes → window ≡ front ++ more → (NeverHasRequest front ⊎ RequestExceeds 64 front)
    → MayBecomeRequest window → IsUnsettled bytes
unsettled bytes window front more first is why may =
    subst (λ (xs : List ℕ). RequestExceeds 64 xs ⊎ EndsInTarget xs) first (clash window front more is why may)

-- an open head that is refused too
open_or_bad : (bytes : List ℕ) → IsHeadOpen bytes → IsBadHead bytes → IsUnsettled bytes
open_or_bad bytes opened bad =
    let size = opened.size in
    unsettled bytes bytes bad.front bad.more (sym (take_all 8192 bytes (omega arith))) bad.bytes_are bad.refused opened.may

-- a head that is too long and refused too
large_or_bad : (bytes : List ℕ) → IsHeadTooLarge bytes → IsBadHead bytes → IsUnsettled bytes
large_or_bad bytes large bad =
    let size = large.size in
    let small = bad.size in
    let first : large.front ≡ take 8192 bytes =
    sym (ap (take 8192) large.bytes_are ∙ (take-append-le 8192 large.front large.more (omega arith) ∙ take_all 8192 large.front (omega arith))) in
    let within = front_of large.front large.more bad.front bad.more (sym large.bytes_are ∙ bad.bytes_are) (omega arith) in
    unsettled bytes large.front bad.front (drop (length bad.front) large.front) first within bad.refused large.may

-- a refusal is for the head, for its length, or for the body
abbrev IsOneOf : List ℕ → FramingError → Type 0
IsOneOf bytes e = ((e ≡ BadHead) × IsBadHead bytes) ⊎ (((e ≡ HeadTooLarge) × IsHeadTooLarge bytes) ⊎ HasBadBody bytes e)

one_of : (bytes : List ℕ) (e : FramingError) → IsRefusedFor e bytes → IsOneOf bytes e
one_of bytes BadHead bad = inl (refl, bad)
one_of bytes HeadTooLarge large = inr (inl (refl, large))
one_of bytes TransferEncoding bad = inr (inr bad)
one_of bytes BadLength bad = inr (inr bad)
one_of bytes BodyTooLarge bad = inr (inr bad)

-- two refusals of the same bytes
refusals : (bytes : List ℕ) (d e : FramingError) → IsOneOf bytes d → IsOneOf bytes e → (d ≡ e) ⊎ IsUnsettled bytes
refusals bytes d e (inl a) (inl b) = inl (a.0 ∙ sym b.0)
refusals bytes d e (inl a) (inr (inl b)) = inr (large_or_bad bytes b.1 a.1)
refusals bytes d e (inl a) (inr (inr b)) = absurd (bad_no_head bytes b.0 b.1 a.1 b.2)
refusals bytes d e (inr (inl a)) (inl b) = inr (large_or_bad bytes a.1 b.1)
refusals bytes d e (inr (inl a)) (inr (inl b)) = inl (a.0 ∙ sym b.0)
refusals bytes d e (inr (inl a)) (inr (inr b)) = absurd (large_no_head bytes b.0 b.1 a.1 b.2)
refusals bytes d e (inr (inr a)) (inl b) = absurd (bad_no_head bytes a.0 a.1 b.1 a.2)
refusals bytes d e (inr (inr a)) (inr (inl b)) = absurd (large_no_head bytes a.0 a.1 b.1 a.2)
refusals bytes d e (inr (inr a)) (inr (inr b)) = inl (same_fault _ d e a.3 (said_too bytes a.0 b.0 _ _ _ a.2 b.2 b.3))

-- a request that isn't whole, and a refusal
open_or_refused : (bytes : List ℕ) (e : FramingError) → IsOpen bytes → IsOneOf bytes e → IsUnsettled bytes
open_or_refused bytes e (inl opened) (inl bad) = open_or_bad bytes opened bad.1
open_or_refused bytes e (inl opened) (inr (inl large)) =
    let size = opened.size in
    let long = large.1.size in
    let whole : length bytes ≡ length large.1.front + length large.1.more = ap length large.1.bytes_are ∙ length-append large.1.front large.1.more in
    absurd (omega arith)
open_or_refused bytes e (inl opened) (inr (inr bad)) = absurd (open_no_head bytes bad.0 bad.1 opened bad.2)
open_or_refused bytes e (inr (h, rest, n, has, method, says, short)) (inl bad) = absurd (bad_no_head bytes h rest bad.1 has)
open_or_refused bytes e (inr (h, rest, n, has, method, says, short)) (inr (inl large)) = absurd (large_no_head bytes h rest large.1 has)
open_or_refused bytes e (inr (h, rest, n, has, method, says, short)) (inr (inr bad)) =
    absurd (no_both _ n e says (said_too bytes h bad.0 _ _ _ has bad.2 bad.3))

-- a request that isn't whole is no HEAD request
open_or_head : (bytes target : List ℕ) → IsOpen bytes → IsHeadRequest target bytes → ⊥
open_or_head bytes target (inl opened) (k, q, m, has, method, path, says) = open_no_head bytes k q opened has
open_or_head bytes target (inr (h, rest, n, has, other, says, short)) (k, q, m, there, method, path, too) =
    other (ap (λ g. g.method) (one_head bytes h k _ _ has there).0 ∙ method)

-- a refusal is no HEAD request
refused_or_head : (bytes target : List ℕ) (e : FramingError) → IsOneOf bytes e → IsHeadRequest target bytes → ⊥
refused_or_head bytes target e (inl bad) (k, q, m, has, method, path, says) = bad_no_head bytes k q bad.1 has
refused_or_head bytes target e (inr (inl large)) (k, q, m, has, method, path, says) = large_no_head bytes k q large.1 has
refused_or_head bytes target e (inr (inr bad)) (k, q, m, has, method, path, says) =
    no_both _ m e says (said_too bytes k bad.0 _ _ _ has bad.2 bad.3)

-- two HEAD requests have one target
one_target : (bytes a b : List ℕ) → IsHeadRequest a bytes → IsHeadRequest b bytes → a ≡ b
one_target bytes a b (h, r, n, has, method, path, says) (k, q, m, there, too, way, also) =
    sym path ∙ (ap (λ g. g.target) (one_head bytes h k _ _ has there).0 ∙ way)

-- the same bytes are one of these, unless it is unsettled which
pub standings_apart : (bytes : List ℕ) (s t : Standing) → StandsIn bytes s → StandsIn bytes t → (s ≡ t) ⊎ IsUnsettled bytes
standings_apart bytes unfinished unfinished a b = inl refl
standings_apart bytes unfinished (refused e) a b = inr (open_or_refused bytes e a (one_of bytes e b))
standings_apart bytes unfinished (head_for target) a b = absurd (open_or_head bytes target a b)
standings_apart bytes (refused e) unfinished a b = inr (open_or_refused bytes e b (one_of bytes e a))
standings_apart bytes (refused d) (refused e) a b =
    elim (refusals bytes d e (one_of bytes d a) (one_of bytes e b)) [ inl same ↦ inl (ap refused same) | inr other ↦ inr other ]
standings_apart bytes (refused e) (head_for target) a b = absurd (refused_or_head bytes target e (one_of bytes e a) b)
standings_apart bytes (head_for target) unfinished a b = absurd (open_or_head bytes target b a)
standings_apart bytes (head_for target) (refused e) a b = absurd (refused_or_head bytes target e (one_of bytes e b) a)
standings_apart bytes (head_for x) (head_for y) a b = inl (ap head_for (one_target bytes x y a b))
