use Rattle.std.proofs.Common.{Result, Ok, inl, inr, refl, ◌≡◌, ℕ, ◌+◌, ◌-◌, length, drop, take, arith, rules, codes, sym, subst, ◌∙◌, ap, Err}
use Rattle.std.specs.Prelude.{OnErr}
use Rattle.std.proofs.lemmas.List.{take-append-drop, take_all, length-take-le}
use Rattle.httparse.specs.Spans.{RequestExceeds, RequestOverflows}
use Rattle.http_wire.specs.Framing.{body_length, closes}
use Rattle.http_wire.specs.Wire.{fields_of}
use Rattle.http_wire.proofs.Heads.{good_head, open_head, open_body, body_in, wire_len, wire_of}
use Rattle.http_wire.proofs.Lengths.{length_limit, refused_body}
use Rattle.http_wire.proofs.Refused.{refused_by}
use Rattle.http_wire.proofs.next.next_by.Goals as goal
use Rattle.http_wire.proofs.next.next_by.Goals.{then-window-lt-MAX_HEAD, else-window-lt-MAX_HEAD}

-- what holds anyway holds where an error is returned
at_err : {T E : Type 0} {P : Type 0} (r : Result T E) → P → OnErr r P
at_err (Ok x) p = tt
at_err (Err e) p = p

pub returns-in-Err-clause-none : goal.returns-in-Err-clause-none
returns-in-Err-clause-none c = λ room _.
    let size : length (take c.min.result c.args.buf.now) ≡ c.min.result = length-take-le _ _ (omega arith) in
    let front = take c.min.result c.args.buf.now in
    record {
      front = front;
      more = drop c.min.result c.args.buf.now;
      bytes_are = sym (take-append-drop _ _);
      size = omega arith;
      refused = refused_by _ _ c.in-Err.field-0 c.in-Err.ensures.invalid (λ h. subst (λ (n : ℕ). RequestExceeds n front) room (c.in-Err.ensures.too_many (ap Err h)));
      never_good = subst (λ (n : ℕ). RequestOverflows n front) room c.in-Err.ensures.no_room;
    }

pub returns-in-Ok-Partial-clause-next : goal.returns-in-Ok-Partial-clause-next
returns-in-Ok-Partial-clause-next c =
    let none = rw c.in-Ok-Partial.field-0-is at c.in-Ok-Partial.ensures.partial in
    let may = rw c.in-Ok-Partial.field-0-is at c.in-Ok-Partial.ensures.unfinished in
    let size : length (take c.min.result c.args.buf.now) ≡ c.min.result = length-take-le _ _ (omega arith) in
    elim c.if-window-lt-MAX_HEAD.branch [
      | then-window-lt-MAX_HEAD w ↦
          let whole : take c.min.result c.args.buf.now ≡ c.args.buf.now = take_all _ _ (omega arith) in
          rw (w.result-is, whole) (open_head c.args.buf.now (rw whole at none) (rw whole at may) (omega arith))
      | else-window-lt-MAX_HEAD w ↦
          rw w.result-is (record {
            front = take c.min.result c.args.buf.now;
            more = drop c.min.result c.args.buf.now;
            bytes_are = sym (take-append-drop _ _);
            size = omega arith;
            none = none;
            may = may;
          })
    ]

pub returns-in-Err-read_body_length-clause-next : goal.returns-in-Err-read_body_length-clause-next
returns-in-Err-read_body_length-clause-next c =
    let found = rw c.in-Ok-Complete.field-0-is at c.in-Ok-Complete.ensures.complete in
    let within = rw c.in-Ok-Complete.field-0-is at c.in-Ok-Complete.ensures.within in
    let has = good_head c.args.buf.now c.min.result _ c.in-Ok-Complete.head found.0 within found.1 (search rules) (omega arith) (omega arith) in
    refused_body c.args.buf.now _ found.0 _ has (sym (ap body_length found.1.fields) ∙ (sym c.read_body_length.ensures ∙ c.in-Err-read_body_length.is))

pub returns-then-eq-clause-next : goal.returns-then-eq-clause-next
returns-then-eq-clause-next c =
    let found = rw c.in-Ok-Complete.field-0-is at c.in-Ok-Complete.ensures.complete in
    let within = rw c.in-Ok-Complete.field-0-is at c.in-Ok-Complete.ensures.within in
    let has = good_head c.args.buf.now c.min.result _ c.in-Ok-Complete.head found.0 within found.1 (search rules) (omega arith) (omega arith) in
    let method : c.of.result.now ≡ codes "HEAD" = search rules in (
      found.0,
      drop c.in-Ok-Complete.head.len c.args.buf.now,
      c.in-Ok.len,
      has,
      sym found.1.method ∙ (sym c.of.ensures ∙ method),
      sym (c.in_ok-target.ensures.items ∙ (c.of-then-eq.ensures ∙ found.1.path)),
      sym (ap body_length found.1.fields) ∙ (sym c.read_body_length.ensures ∙ c.in-Ok.is),
    )

pub overflow_add-result-then-buf-head : goal.overflow_add-result-then-buf-head
overflow_add-result-then-buf-head c =
    let within = rw c.in-Ok-Complete.field-0-is at c.in-Ok-Complete.ensures.within in
    let size : length (take c.min.result c.args.buf.now) ≡ c.min.result = length-take-le _ _ (omega arith) in
    let found = rw c.in-Ok-Complete.field-0-is at c.in-Ok-Complete.ensures.complete in
    let says = sym (ap body_length found.1.fields) ∙ (sym c.read_body_length.ensures ∙ c.in-Ok.is) in
    omega (arith, within.section.len_fits, length_limit (fields_of found.0) c.in-Ok.len says)

pub returns-then-buf-head-clause-next : goal.returns-then-buf-head-clause-next
returns-then-buf-head-clause-next c =
    let found = rw c.in-Ok-Complete.field-0-is at c.in-Ok-Complete.ensures.complete in
    let within = rw c.in-Ok-Complete.field-0-is at c.in-Ok-Complete.ensures.within in
    let has = good_head c.args.buf.now c.min.result _ c.in-Ok-Complete.head found.0 within found.1 (search rules) (omega arith) (omega arith) in
    let size : length (take c.min.result c.args.buf.now) ≡ c.min.result = length-take-le _ _ (omega arith) in
    let other : ¬ (c.of.result.now ≡ codes "HEAD") = search rules in
    let says = sym (ap body_length found.1.fields) ∙ (sym c.read_body_length.ensures ∙ c.in-Ok.is) in
    open_body c.args.buf.now c.in-Ok-Complete.head.len c.in-Ok.len found.0 has found.1.len
    (λ is. other (c.of.ensures ∙ (found.1.method ∙ is)))
    says (length_limit (fields_of found.0) c.in-Ok.len says)
    (omega (arith, within.section.len_fits)) c.if-buf-head.true

pub returns-clause-next : goal.returns-clause-next
returns-clause-next c =
    let found = rw c.in-Ok-Complete.field-0-is at c.in-Ok-Complete.ensures.complete in
    let within = rw c.in-Ok-Complete.field-0-is at c.in-Ok-Complete.ensures.within in
    let has = good_head c.args.buf.now c.min.result _ c.in-Ok-Complete.head found.0 within found.1 (search rules) (omega arith) (omega arith) in
    let other : ¬ (c.of.result.now ≡ codes "HEAD") = search rules in
    let says = sym (ap body_length found.1.fields) ∙ (sym c.read_body_length.ensures ∙ c.in-Ok.is) in
    let parts = c.in_ok-request.ensures in
    let same : (c.in-Ok-Complete.head.len + c.in-Ok.len) - c.in-Ok-Complete.head.len ≡ c.in-Ok.len = omega arith in
    record {
      wire = record { head = found.0; body = take c.in-Ok.len (drop c.in-Ok-Complete.head.len c.args.buf.now) };
      rest = drop c.in-Ok.len (drop c.in-Ok-Complete.head.len c.args.buf.now);
      is_wire = wire_of c.args.buf.now c.in-Ok-Complete.head.len c.in-Ok.len found.0 has (λ is. other (c.of.ensures ∙ (found.1.method ∙ is))) says (omega arith);
      request = record {
        method = ap (λ a. a.method) parts ∙ (c.of-2.ensures ∙ found.1.method);
        target = ap (λ a. a.target) parts ∙ (c.of-3.ensures ∙ found.1.path);
        body = ap (λ a. a.body) parts ∙ ap (λ (k : ℕ). take k (drop c.in-Ok-Complete.head.len c.args.buf.now)) same;
        close = ap (λ a. a.close) parts ∙ (c.asks_close.ensures ∙ (ap (closes c.in-Ok-Complete.head.version) found.1.fields ∙ ap (λ (v : ℕ). closes v (fields_of found.0)) found.1.version));
      };
      bytes_are = body_in c.args.buf.now c.in-Ok-Complete.head.len c.in-Ok.len found.0 has.bytes_are;
      len_is = wire_len c.args.buf.now c.in-Ok-Complete.head.len c.in-Ok.len found.0 found.1.len (omega arith);
    }

pub returns-in_err-target-clause-memory : goal.returns-in_err-target-clause-memory
returns-in_err-target-clause-memory c =
    let found = rw c.in-Ok-Complete.field-0-is at c.in-Ok-Complete.ensures.complete in
    let within = rw c.in-Ok-Complete.field-0-is at c.in-Ok-Complete.ensures.within in
    let has = good_head c.args.buf.now c.min.result _ c.in-Ok-Complete.head found.0 within found.1 (search rules) (omega arith) (omega arith) in
    let method : c.of.result.now ≡ codes "HEAD" = search rules in
    let says = sym (ap body_length found.1.fields) ∙ (sym c.read_body_length.ensures ∙ c.in-Ok.is) in
    at_err _ (inr (found.0.target, (found.0, drop c.in-Ok-Complete.head.len c.args.buf.now, c.in-Ok.len, has, sym found.1.method ∙ (sym c.of.ensures ∙ method), refl, says)))

pub returns-in_err-request-clause-memory : goal.returns-in_err-request-clause-memory
returns-in_err-request-clause-memory c =
    let found = rw c.in-Ok-Complete.field-0-is at c.in-Ok-Complete.ensures.complete in
    let within = rw c.in-Ok-Complete.field-0-is at c.in-Ok-Complete.ensures.within in
    let has = good_head c.args.buf.now c.min.result _ c.in-Ok-Complete.head found.0 within found.1 (search rules) (omega arith) (omega arith) in
    let other : ¬ (c.of.result.now ≡ codes "HEAD") = search rules in
    let says = sym (ap body_length found.1.fields) ∙ (sym c.read_body_length.ensures ∙ c.in-Ok.is) in
    at_err _ (inl (
      record { head = found.0; body = take c.in-Ok.len (drop c.in-Ok-Complete.head.len c.args.buf.now) },
      drop c.in-Ok.len (drop c.in-Ok-Complete.head.len c.args.buf.now),
      wire_of c.args.buf.now c.in-Ok-Complete.head.len c.in-Ok.len found.0 has (λ is. other (c.of.ensures ∙ (found.1.method ∙ is))) says (omega arith),
      body_in c.args.buf.now c.in-Ok-Complete.head.len c.in-Ok.len found.0 has.bytes_are,
    ))
