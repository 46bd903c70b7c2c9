-- The records that a reader gave, one after the other, are the first ones of its text.
use Rattle.std.proofs.Common.{◌≡◌, ◌⊎◌, inl, inr, ℕ, zero, suc, ◌+◌, ◌<◌, Bool, true, false, List, [], ◌∷◌, ◌++◌, length, Some, None, refl, sym, ◌∙◌, ap, arith}
use Rattle.std.proofs.lemmas.List.{append-nil}
use Rattle.csv.specs.Reading.{default_config}
use Rattle.csv.specs.Machine.{Read, next_record, step, is_end, fields_after, field_after, ends_at_end}
use Rattle.csv.specs.Reading.{Reached, records, records_from}
use Rattle.csv.specs.declared.parser.Config.{Config}
use Rattle.csv.specs.declared.parser.State.{State}
use Rattle.csv.specs.declared.parser.State.TheVariants as st
use Rattle.std.specs.Prelude.{if◌then◌else◌}
use Rattle.td_batch_rows.specs.Rows.{Fields}

-- enough turns for the text that is left, or nothing is left
abbrev pub Enough : ℕ → State → List ℕ → Type 0
Enough n s xs = (length xs < n) ⊎ ((s ≡ st.StartRecord) × (xs ≡ []))

shrinks : (cfg : Config) (s : State) (fields : Fields) (field xs : List ℕ) (q : Read) → next_record cfg s fields field xs ≡ Some q
    → (length q.2 < length xs) ⊎ ((q.1 ≡ st.StartRecord) × (q.2 ≡ []))
unfolding next_record
shrinks cfg s fields field [] q e = at_end (ends_at_end s) e
  where
    at_end : (b : Bool) → (if b then Some (fields ++ (field ∷ []), st.StartRecord, []) else None) ≡ Some q
        → (length q.2 < 0) ⊎ ((q.1 ≡ st.StartRecord) × (q.2 ≡ []))
    at_end true h = inr (cc, cc)
    at_end false h = cc
shrinks cfg s fields field (c ∷ rest) q e = at_byte (is_end (step cfg s c).1) (λ h. shrinks cfg (step cfg s c).0 (fields_after (step cfg s c).1 fields field) (field_after (step cfg s c).1 c field) rest q h) e
  where
    at_byte : (b : Bool)
        → (next_record cfg (step cfg s c).0 (fields_after (step cfg s c).1 fields field) (field_after (step cfg s c).1 c field) rest ≡ Some q
        → (length q.2 < length rest) ⊎ ((q.1 ≡ st.StartRecord) × (q.2 ≡ [])))
        → (if b then Some (fields_after (step cfg s c).1 fields field, (step cfg s c).0, rest)
        else next_record cfg (step cfg s c).0 (fields_after (step cfg s c).1 fields field) (field_after (step cfg s c).1 c field) rest) ≡ Some q
        → (length q.2 < suc (length rest)) ⊎ ((q.1 ≡ st.StartRecord) × (q.2 ≡ []))
    at_byte true later h =
        let same : q.2 ≡ rest = cc in
        inl (rw same (omega arith))
    at_byte false later h = elim (later h) [
      | inl less ↦ inl (omega (arith, less))
      | inr none ↦ inr none
    ]

no_record : (cfg : Config) → next_record cfg st.StartRecord [] [] [] ≡ None
unfolding next_record
no_record cfg = refl

-- behind these records stand those of the text that is left
pub records_after : (cfg : Config) (n : ℕ) (s : State) (xs : List ℕ) (rows : List Fields) (s2 : State) (ys : List ℕ) → Enough n s xs
    → Reached cfg s xs rows s2 ys → (m : ℕ) × Enough m s2 ys × (records_from cfg n s xs ≡ rows ++ records_from cfg m s2 ys)
unfolding Reached records_from
records_after cfg n s xs [] s2 ys enough (same, left) = (n, rw (sym same, sym left) enough, rw (same, left) refl)
records_after cfg zero s xs (r ∷ rows) s2 ys (inl less) (p, next, is, more) = absurd (omega (arith, less))
records_after cfg (suc n) s xs (r ∷ rows) s2 ys (inl less) (p, next, is, more) =
    let enough : Enough n p.1 p.2 = elim (shrinks cfg s [] [] xs p next) [
      | inl short ↦ inl (omega (arith, short, less))
      | inr none ↦ inr none
    ] in
    let later = records_after cfg n p.1 p.2 rows s2 ys enough more in
    (later.0, later.1, rw (next, is, later.2) refl)
records_after cfg n s xs (r ∷ rows) s2 ys (inr (start, none)) (p, next, is, more) =
    let never = rw (start, none) at next in
    let gone = sym (no_record cfg) ∙ never in
    cc

-- where no record is left, these are all
pub no_more : (cfg : Config) (n : ℕ) (s : State) (ys : List ℕ) → next_record cfg s [] [] ys ≡ None → records_from cfg n s ys ≡ []
unfolding records_from
no_more cfg zero s ys none = refl
no_more cfg (suc n) s ys none = rw none refl

enough_at_first : (xs : List ℕ) → Enough (length xs + 1) st.StartRecord xs
enough_at_first xs = inl (omega arith)

pub all_records : (xs : List ℕ) (rows : List Fields) (s : State) (ys : List ℕ) → Reached default_config st.StartRecord xs rows s ys
    → next_record default_config s [] [] ys ≡ None → records default_config xs ≡ rows
all_records xs rows s ys reached none =
    let a = records_after default_config (length xs + 1) st.StartRecord xs rows s ys (enough_at_first xs) reached in
    a.2 ∙ ap (λ (more : List Fields). rows ++ more) (no_more default_config a.0 s ys none) ∙ append-nil rows

append_more : (rows : List Fields) (r : Fields) (more : List Fields) → (rows ++ r ∷ []) ++ more ≡ rows ++ r ∷ more
append_more [] r more = refl
append_more (q ∷ rows) r more = ap (λ (l : List Fields). q ∷ l) (append_more rows r more)

pub records_begin : (xs : List ℕ) (rows : List Fields) (r : Fields) (s : State) (ys : List ℕ)
    → Reached default_config st.StartRecord xs (rows ++ r ∷ []) s ys
    → (rest : List Fields) × (records default_config xs ≡ rows ++ r ∷ rest)
records_begin xs rows r s ys reached =
    let a = records_after default_config (length xs + 1) st.StartRecord xs (rows ++ r ∷ []) s ys (enough_at_first xs) reached in
    (records_from default_config a.0 s ys, a.2 ∙ append_more rows r (records_from default_config a.0 s ys))
