use Rattle.std.proofs.Common.{◌≡◌, ◌∙◌, sym, ap, inl, inr, refl, rules, true, false, Err}
use Rattle.td_fields.proofs.BodyFacts.{object_read, object_unread}
use Rattle.td_fields.proofs.bodies.read_object.Goals as goal
use Rattle.td_fields.proofs.bodies.read_object.Goals.{then-is_memory, else-is_memory}

pub returns-in-Err : goal.returns-in-Err
returns-in-Err c =
    elim c.if-is_memory.branch [
      | then-is_memory w ↦ inl w.result-is
      | else-is_memory w ↦
          let unread = c.in-Err.ensures.err (λ m. absurd (let never : false ≡ true = w.if-is_memory.ensures.1 m in search rules)) in
          inr (object_unread _ unread ∙ ap Err (sym w.result-is))
    ]

pub returns-then-is_object : goal.returns-then-is_object
returns-then-is_object c = object_read _ _ c.in-Ok.ensures.ok.0 c.in-Ok.ensures.ok.1 ∙ rw (← c.if-is_object.ensures) refl
