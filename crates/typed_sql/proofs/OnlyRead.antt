-- What calls one after another have only read, where the tables are those of a schema.
use Rattle.std.proofs.Common.{◌∙◌, ap, inl, refl, arith}
use Rattle.std.specs.Prelude.{Bool, true}
use Rattle.sqlite_schema.specs.declared.schema.Schema.{Schema}
use Rattle.sqlite.specs.Effect.{Database}
use Rattle.sqlite.specs.State.{State}
use Rattle.sqlite.proofs.Callers.{unchanged_then}
use Rattle.sqlite.proofs.StateLemmas.{survives_then, unchanged}
use Rattle.typed_sql.specs.Reading.{HasOnlyRead, LeavesAll, OnlyRead, Reads, StaysInside}
use Rattle.typed_sql.specs.Writing.{HasSchema}

-- the tables are still those of the schema
pub still_has : {s : Schema} (a b : State) → HasSchema a s → HasOnlyRead a b → HasSchema b s
still_has a b has read is = ap (λ (d : Database). d.schema) read.now_is ∙ has (read.was_open is)

-- no call
pub none_read : {s : Schema} (a : State) → OnlyRead s a a
none_read a has = record { was_open = λ is. is; now_is = refl; unchanged = unchanged a }

-- a call that leaves all as it was
pub one_read : {s : Schema} (a b : State) → LeavesAll s a b → OnlyRead s a b
one_read a b left has =
    let one = left has in
    record { was_open = λ is. one.0.was_open; now_is = one.0.now_is; unchanged = λ is. one }

-- calls after others
pub read_more : {s : Schema} (a b d : State) → OnlyRead s a b → OnlyRead s b d → OnlyRead s a d
read_more a b d first second has =
    let one = first has in
    let two = second (still_has a b has one) in
    record {
      was_open = λ is. one.was_open (two.was_open is);
      now_is = two.now_is ∙ one.now_is;
      unchanged = λ is.
          let before = one.unchanged is in
          unchanged_then a b d before (two.unchanged before.0.is_open);
    }

-- no call
pub stays_nothing : {w : Bool} {a : State} → StaysInside w a a
stays_nothing = record {
  inside = λ clean well was. was;
  kept = λ clean was. record { was_open = λ is. is; committed = λ is. refl };
  survives = record {
    clean = omega arith;
    shield = λ h. h;
    counts = omega arith;
    limit = refl;
    closes = λ clean is. inl is;
    crash = λ clean db may. inl may;
  };
}

-- calls after calls that ended well
pub stays_on : {w : Bool} {a b d : State} → StaysInside true a b → StaysInside w b d → StaysInside w a d
stays_on {w} {a} {b} {d} first second = record {
  inside = λ clean well was.
      second.inside clean well (first.inside (omega (arith, clean, second.survives.clean)) refl was);
  kept = λ clean was.
      let one = first.kept (omega (arith, clean, second.survives.clean)) was in
      let two = second.kept clean (first.inside (omega (arith, clean, second.survives.clean)) refl was) in
      record {
        was_open = λ is. one.was_open (two.was_open is);
        committed = λ is. two.committed is ∙ one.committed (two.was_open is);
      };
  survives = survives_then a b d _ _ _ (λ _ db none. none) (λ _ db none. none) first.survives second.survives;
}

-- calls that ended well, whatever is answered after them
pub stays_well : {w : Bool} {a b : State} → StaysInside true a b → StaysInside w a b
stays_well first = record {
  inside = λ clean well was. first.inside clean refl was;
  kept = first.kept;
  survives = first.survives;
}

-- calls that read after calls that read and ended well
pub reads_on : {s : Schema} {w : Bool} {a b d : State} → Reads s true a b → Reads s w b d → Reads s w a d
reads_on {s} {w} {a} {b} {d} first second = record {
  still = λ clean well.
      read_more a b d (first.still (omega (arith, clean, second.within.survives.clean)) refl) (second.still clean well);
  within = stays_on first.within second.within;
}

-- calls that read and ended well, whatever is answered after them
pub reads_well : {s : Schema} {w : Bool} {a b : State} → Reads s true a b → Reads s w a b
reads_well first = record { still = λ clean well. first.still clean refl; within = stays_well first.within }
