-- What a call says of each layout, where it was well.
use Rattle.std.proofs.Common.{Err, Ok, Result}
use Rattle.std.specs.Prelude.{IfOk}
use Rattle.td_schema.specs.declared.layout.Layout.{Layout}

pub each_ok : {T E : Type 0} (P : Layout → T → Type 0) (r : Result T E) → ((l : Layout) → IfOk r (P l)) → IfOk r (λ x. (l : Layout) → P l x)
each_ok P (Ok x) h = h
each_ok P (Err e) h = tt

-- of each layout of a kind
pub where_ok : {T E : Type 0} (Q : Layout → Type 0) (P : Layout → T → Type 0) (r : Result T E) → ((l : Layout) → Q l → IfOk r (P l))
    → IfOk r (λ x. (l : Layout) → Q l → P l x)
where_ok Q P (Ok x) h = h
where_ok Q P (Err e) h = tt
