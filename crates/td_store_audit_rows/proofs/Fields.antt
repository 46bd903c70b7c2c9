-- A column is a field exactly where it is of its kind and in range.
use Rattle.std.proofs.Common.{◌≡◌, ◌∙◌, ℕ, ◌<◌, ◌^◌, Bool, true, false, List, Option, Some, None, Ok, Err, refl, sym, ap, arith}
use Rattle.std.proofs.lemmas.Bool.{false≢true}
use Rattle.std.proofs.lemmas.Bool.Decides.{nat_tests, Decides-and}
use Rattle.std.specs.Bool.{Decides}
use Rattle.std.specs.Option.{is_some, option_map, option_and_then}
use Rattle.std.specs.Result.{result_ok}
use Rattle.std.specs.Prelude.{◌&&◌, IfSome, if◌then◌else◌, nat_le, nat_lt, negsuc, pos}
use Rattle.ascii_text.proofs.Decided.{le_decided}
use Rattle.sqlite_value.specs.declared.value.Value.{Value}
use Rattle.sqlite_value.specs.declared.value.Value.TheVariants.{Blob, Int, Null, Real, Text}
use Rattle.td_base.specs.Codes.{IsAccessCode, IsLrn, IsOfficeNo, is_access_code, is_lrn, is_office_no, IsEori, is_eori, IsHolderNumber, holder_of, is_holder_number}
use Rattle.td_base.specs.References.{IsGrn, IsMrn, first_fault, is_reference_text}
use Rattle.td_base.specs.declared.references.RefFault.{RefFault}
use Rattle.td_money.specs.Money.{IsCents, IsCover, is_cents, is_cover}
use Rattle.td_time.specs.Days.{IsDay, IsMoment}
use Rattle.td_schema.specs.Fields.{amount_in, code_in, cover_in, day_in, eori_in, grn_in, holder_in, lrn_in, moment_in, mrn_in, office_in, optional_in, serial_in}
use Rattle.typed_sql.specs.Values.{number_if, number_in, number_or_null, number_value, text_if, text_in, text_or_null}
use Rattle.td_store_audit_rows.proofs.Forms.{code_decided, cover_decided, eori_decided, holder_decided, lrn_decided, office_decided, reference_decided, serial_decided}

-- the value is a number in range; a text of that form; or NULL
abbrev pub IsNumberIn : (ℕ → Type 0) → Value → Type 0
IsNumberIn P v = (v ≡ number_value (number_in v)) × P (number_in v)

abbrev pub IsTextOf : (List ℕ → Type 0) → Value → Type 0
IsTextOf P v = (v ≡ Text (text_in v)) × P (text_in v)

abbrev pub IsNumberIfAny : (ℕ → Type 0) → Value → Type 0
IsNumberIfAny P v = (v ≡ number_or_null (number_if v)) × IfSome (number_if v) P

abbrev pub IsTextIfAny : (List ℕ → Type 0) → Value → Type 0
IsTextIfAny P v = (v ≡ text_or_null (text_if v)) × IfSome (text_if v) P

-- what a test lets through
kept_where : {X : Type 0} (b : Bool) (x : X) → is_some (if b then Some x else None) ≡ b
kept_where true x = refl
kept_where false x = refl

decided_as : {P : Type 0} (a b : Bool) → a ≡ b → Decides b P → Decides a P
decided_as a b same d = (λ is. d.0 (sym same ∙ is), λ p. same ∙ d.1 p)

none_decided : {X P : Type 0} (o : Option X) → o ≡ None → (P → ⊥) → Decides (is_some o) P
none_decided o none no_p = (λ is. absurd (false≢true (sym (ap is_some none) ∙ is)), λ p. absurd (no_p p))

-- a field that is there
mapped : {X : Type 0} (o : Option X) → is_some (option_map Some o) ≡ is_some o
mapped None = refl
mapped (Some x) = refl

-- a reader of numbers that lets through those that pass a test
module _ (read : Value → Option ℕ) (test : ℕ → Bool) (P : ℕ → Type 0) (decided : (n : ℕ) → Decides (test n) (P n))
    (int : (n : ℕ) → is_some (read (Int (pos n))) ≡ test n) (negative : (n : ℕ) → read (Int (negsuc n)) ≡ None) (null : read Null ≡ None)
    (real : (x : _) → read (Real x) ≡ None) (text : (t : List ℕ) → read (Text t) ≡ None) (blob : (b : List ℕ) → read (Blob b) ≡ None) where
  pub number_decided : (v : Value) → Decides (is_some (read v)) (IsNumberIn P v)
  number_decided (Int (pos n)) = let d = decided_as (is_some (read (Int (pos n)))) (test n) (int n) (decided n) in (λ is. (refl, d.0 is), λ h. d.1 h.1)
  number_decided (Int (negsuc n)) = none_decided (read (Int (negsuc n))) (negative n) (λ h. let e = h.0 in cc)
  number_decided Null = none_decided (read Null) null (λ h. let e = h.0 in cc)
  number_decided (Real x) = none_decided (read (Real x)) (real x) (λ h. let e = h.0 in cc)
  number_decided (Text t) = none_decided (read (Text t)) (text t) (λ h. let e = h.0 in cc)
  number_decided (Blob b) = none_decided (read (Blob b)) (blob b) (λ h. let e = h.0 in cc)

  -- a number that may be left out
  pub number_if_decided : (v : Value) → Decides (is_some (optional_in read v)) (IsNumberIfAny P v)
  number_if_decided Null = (λ is. (refl, tt), λ h. refl)
  number_if_decided (Int (pos n)) = let d = decided_as _ _ (mapped (read (Int (pos n)))) (number_decided (Int (pos n))) in (λ is. d.0 is, λ h. d.1 h)
  number_if_decided (Int (negsuc n)) = let d = decided_as _ _ (mapped (read (Int (negsuc n)))) (number_decided (Int (negsuc n))) in (λ is. d.0 is, λ h. d.1 h)
  number_if_decided (Real x) = none_decided (option_map Some (read (Real x))) (ap (option_map Some) (real x)) (λ h. let e = h.0 in cc)
  number_if_decided (Text t) = none_decided (option_map Some (read (Text t))) (ap (option_map Some) (text t)) (λ h. let e = h.0 in cc)
  number_if_decided (Blob b) = none_decided (option_map Some (read (Blob b))) (ap (option_map Some) (blob b)) (λ h. let e = h.0 in cc)

-- the same of texts
module _ (read : Value → Option (List ℕ)) (test : List ℕ → Bool) (P : List ℕ → Type 0) (decided : (t : List ℕ) → Decides (test t) (P t))
    (text : (t : List ℕ) → is_some (read (Text t)) ≡ test t) (int : (n : _) → read (Int n) ≡ None) (null : read Null ≡ None)
    (real : (x : _) → read (Real x) ≡ None) (blob : (b : List ℕ) → read (Blob b) ≡ None) where
  pub text_decided : (v : Value) → Decides (is_some (read v)) (IsTextOf P v)
  text_decided (Text t) = let d = decided_as (is_some (read (Text t))) (test t) (text t) (decided t) in (λ is. (refl, d.0 is), λ h. d.1 h.1)
  text_decided Null = none_decided (read Null) null (λ h. let e = h.0 in cc)
  text_decided (Int n) = none_decided (read (Int n)) (int n) (λ h. let e = h.0 in cc)
  text_decided (Real x) = none_decided (read (Real x)) (real x) (λ h. let e = h.0 in cc)
  text_decided (Blob b) = none_decided (read (Blob b)) (blob b) (λ h. let e = h.0 in cc)

  pub text_if_decided : (v : Value) → Decides (is_some (optional_in read v)) (IsTextIfAny P v)
  text_if_decided Null = (λ is. (refl, tt), λ h. refl)
  text_if_decided (Text t) = let d = decided_as _ _ (mapped (read (Text t))) (text_decided (Text t)) in (λ is. d.0 is, λ h. d.1 h)
  text_if_decided (Int n) = none_decided (option_map Some (read (Int n))) (ap (option_map Some) (int n)) (λ h. let e = h.0 in cc)
  text_if_decided (Real x) = none_decided (option_map Some (read (Real x))) (ap (option_map Some) (real x)) (λ h. let e = h.0 in cc)
  text_if_decided (Blob b) = none_decided (option_map Some (read (Blob b))) (ap (option_map Some) (blob b)) (λ h. let e = h.0 in cc)

-- each field
pub serial_field : (v : Value) → Decides (is_some (serial_in v)) (IsNumberIn (λ n. n < 2 ^ 32) v)
serial_field = number_decided serial_in (λ n. nat_lt n (2 ^ 32)) (λ n. n < 2 ^ 32) serial_decided (λ n. kept_where (nat_lt n (2 ^ 32)) n)
    (λ n. refl) refl (λ x. refl) (λ t. refl) (λ b. refl)

holder_kept : (n : ℕ) → is_some (holder_in (Int (pos n))) ≡ is_holder_number n
holder_kept n = by_test (nat_lt n (2 ^ 32)) refl
  where
    by_test : (b : Bool) → nat_lt n (2 ^ 32) ≡ b → is_some (option_and_then holder_of (if b then Some n else None)) ≡ is_holder_number n
    by_test true is = kept_where (is_holder_number n) n
    by_test false is = sym (beyond (is_holder_number n) refl)
      where
        beyond : (d : Bool) → is_holder_number n ≡ d → d ≡ false
        beyond true its = let low = ((holder_decided n).0 its).1 in absurd (grind (arith, nat_tests, is, low))
        beyond false its = refl

pub holder_field : (v : Value) → Decides (is_some (holder_in v)) (IsNumberIn IsHolderNumber v)
holder_field = number_decided holder_in is_holder_number IsHolderNumber holder_decided holder_kept (λ n. refl) refl (λ x. refl) (λ t. refl) (λ b. refl)

pub amount_field : (v : Value) → Decides (is_some (amount_in v)) (IsNumberIn IsCents v)
amount_field = number_decided amount_in is_cents IsCents (λ n. le_decided n (10 ^ 15)) (λ n. kept_where (is_cents n) n) (λ n. refl) refl (λ x. refl) (λ t. refl) (λ b. refl)

pub cover_field : (v : Value) → Decides (is_some (cover_in v)) (IsNumberIn IsCover v)
cover_field = number_decided cover_in is_cover IsCover cover_decided (λ n. kept_where (is_cover n) n) (λ n. refl) refl (λ x. refl) (λ t. refl) (λ b. refl)

day_decided : (n : ℕ) → Decides (nat_le 10957 n && nat_le n 47846) (IsDay n)
day_decided n = Decides-and _ _ (le_decided 10957 n) (le_decided n 47846)

pub day_field : (v : Value) → Decides (is_some (day_in v)) (IsNumberIn IsDay v)
day_field = number_decided day_in (λ n. nat_le 10957 n && nat_le n 47846) IsDay day_decided (λ n. kept_where (nat_le 10957 n && nat_le n 47846) n)
    (λ n. refl) refl (λ x. refl) (λ t. refl) (λ b. refl)

pub day_if_field : (v : Value) → Decides (is_some (optional_in day_in v)) (IsNumberIfAny IsDay v)
day_if_field = number_if_decided day_in (λ n. nat_le 10957 n && nat_le n 47846) IsDay day_decided (λ n. kept_where (nat_le 10957 n && nat_le n 47846) n)
    (λ n. refl) refl (λ x. refl) (λ t. refl) (λ b. refl)

pub code_field : (v : Value) → Decides (is_some (code_in v)) (IsTextOf IsAccessCode v)
code_field = text_decided code_in is_access_code IsAccessCode code_decided (λ t. kept_where (is_access_code t) t) (λ n. refl) refl (λ x. refl) (λ b. refl)

pub lrn_field : (v : Value) → Decides (is_some (lrn_in v)) (IsTextOf IsLrn v)
lrn_field = text_decided lrn_in is_lrn IsLrn lrn_decided (λ t. kept_where (is_lrn t) t) (λ n. refl) refl (λ x. refl) (λ b. refl)

pub office_field : (v : Value) → Decides (is_some (office_in v)) (IsTextOf IsOfficeNo v)
office_field = text_decided office_in is_office_no IsOfficeNo office_decided (λ t. kept_where (is_office_no t) t) (λ n. refl) refl (λ x. refl) (λ b. refl)

pub office_if_field : (v : Value) → Decides (is_some (optional_in office_in v)) (IsTextIfAny IsOfficeNo v)
office_if_field = text_if_decided office_in is_office_no IsOfficeNo office_decided (λ t. kept_where (is_office_no t) t) (λ n. refl) refl (λ x. refl) (λ b. refl)

ok_where : (b : Bool) (t : List ℕ) (e : RefFault) → is_some (result_ok (if b then Ok t else Err e)) ≡ b
ok_where true t e = refl
ok_where false t e = refl

pub grn_field : (v : Value) → Decides (is_some (grn_in v)) (IsTextOf IsGrn v)
grn_field = text_decided grn_in (is_reference_text 17) IsGrn (reference_decided 17) (λ t. ok_where (is_reference_text 17 t) t (first_fault 17 t)) (λ n. refl) refl (λ x. refl) (λ b. refl)

pub mrn_field : (v : Value) → Decides (is_some (mrn_in v)) (IsTextOf IsMrn v)
mrn_field = text_decided mrn_in (is_reference_text 18) IsMrn (reference_decided 18) (λ t. ok_where (is_reference_text 18 t) t (first_fault 18 t)) (λ n. refl) refl (λ x. refl) (λ b. refl)

pub moment_field : (v : Value) → Decides (is_some (moment_in v)) (IsNumberIn IsMoment v)
moment_field =
    number_decided moment_in (λ n. nat_le 946684800 n && nat_le n 4102444799) IsMoment
    (λ n. Decides-and _ _ (le_decided 946684800 n) (le_decided n 4102444799)) (λ n. kept_where (nat_le 946684800 n && nat_le n 4102444799) n)
    (λ n. refl) refl (λ x. refl) (λ t. refl) (λ b. refl)

pub eori_field : (v : Value) → Decides (is_some (eori_in v)) (IsTextOf IsEori v)
eori_field =
    text_decided eori_in is_eori IsEori eori_decided (λ t. kept_where (is_eori t) t) (λ n. refl) refl (λ x. refl) (λ b. refl)
