-- What is said of an accepted change over sound rows, by the table of what is said.
use Rattle.std.proofs.Common.{◌≡◌, ℕ, ◌+◌, Bool, true, false, cond, List, [], ◌∷◌, All, Option, None, Some, refl, sym, ap, subst, ◌∙◌}
use Rattle.std.proofs.lemmas.Bool.{and_parts, not-true}
use Rattle.std.proofs.lemmas.Slice.Eq.{bytes_eq-Decides}
use Rattle.std.specs.List.{AllByRecursion}
use Rattle.std.specs.Option.{is_some}
use Rattle.std.specs.Prelude.{IfSome, find, length, ◌&&◌, not, nat_le}
use Rattle.std.specs.Str.{bytes_eq}
use Rattle.keyed_rows.proofs.Putting.{All-row_at}
use Rattle.td_base.specs.Codes.{IsAccessCode, IsCountry}
use Rattle.td_base.specs.Days.{moment_of}
use Rattle.td_base.specs.References.{IsGrn, IsMrn}
use Rattle.td_base.proofs.MadeReferences.{lettered_form, made_is_reference}
use Rattle.td_commands.specs.Commands.{is_changing, owner_of}
use Rattle.td_commands.specs.declared.command.Command.{Command}
use Rattle.td_commands.specs.declared.command.Command.TheVariants.{Register, OpenGuarantee, Amend, Revoke, Ie015, Ie014, AddCode, RemoveCode, Ie029, Ie007, Ie018, Ie045, Ie140, SeeHolder, SeeMovement, SeeMovements, SeeGuarantee, SeeGuarantees}
use Rattle.td_commands.specs.declared.command.Stamped.{Stamped}
use Rattle.td_commands.specs.declared.said.Refusal.{Refusal}
use Rattle.td_commands.specs.declared.said.Refusal.TheVariants.{ClockBack, CodeKnown, CodesFull, LastCode, NoCode, NoGuarantee, SerialsSpent, NoMovement, WrongState}
use Rattle.td_commands.specs.declared.said.Said.{Said}
use Rattle.td_commands.specs.declared.said.Said.TheVariants.{Refused}
use Rattle.td_model.specs.Content.{Content, IsSound, rows_of}
use Rattle.td_acts.specs.Weighing.{kept_for, owner_account}
use Rattle.td_acts.proofs.Fresh.{owner_account_is_kept}
use Rattle.td_guarantee.specs.declared.guarantee.Guarantee.{Guarantee}
use Rattle.td_guarantee.specs.Codes.{most_codes}
use Rattle.td_guarantee.specs.Usage.{used_on}
use Rattle.td_guarantee.proofs.Coded.{all_with, all_without}
use Rattle.td_journal.specs.Texts.{is_change_at}
use Rattle.td_journal_rows.specs.Requests.{IsTyped}
use Rattle.td_journal_laws.proofs.Bodies.{IsTold, arrival_told, cancellation_told, control_told, declaration_told, enquiry_told, guarantee_told, holder_told, opening_told, release_told, revocation_told, write_off_told}
use Rattle.td_model.specs.Account.{Account, HolderRows, account_with, coded, guarantee_by_grn, holder_key, movement_by_lrn, movement_by_mrn, uncoded}
use Rattle.td_model.specs.Effects.{amended, greatest_grn_given, judged, year2_at}
use Rattle.td_model.specs.Machine.{has_known_lrn, is_accepted_at, is_accepted_in, is_answer}
use Rattle.td_model.specs.Sound.{AllNumbered, AreHolderRows, IsGuaranteeRow}
use Rattle.td_model.specs.Table.{if_lrn_new, if_not_refused, is_back, is_spent, on_guarantee, on_movement, or_refuse, refuse_if, said_at, said_in, stands}
use Rattle.td_model.specs.declared.holder_row.HolderRow.{HolderRow}
use Rattle.td_movement.specs.States.{state_after}
use Rattle.td_movement.specs.declared.moves.Move.{Move}
use Rattle.td_movement.specs.declared.movement.Movement.{Movement}
use Rattle.td_redo.specs.Redo.{said_over}

-- ---- what is refused, and what isn't

abbrev IsFine : Said → Type 0
IsFine words = is_answer words ≡ true → IsTold words

refused : (why : Refusal) → IsFine (Refused why)
refused why answered = cc

fine_or : {X : Type 0} (why : Refusal) (o : Option X) (said_of : X → Said) → ((x : X) → o ≡ Some x → IsFine (said_of x)) → IsFine (or_refuse why o said_of)
fine_or why None said_of each = refused why
fine_or why (Some x) said_of each = each x refl

fine_if : (why : Refusal) (b : Bool) (said : Said) → IsFine said → IsFine (refuse_if why b said)
fine_if why true said fine = refused why
fine_if why false said fine = fine

fine_unless : (o : Option Refusal) (said : Said) → IsFine said → IsFine (if_not_refused o said)
fine_unless None said fine = fine
fine_unless (Some why) said fine = refused why

fine_new : (known : Option Movement) (is_repeat : Movement → Bool) (said : Said) → is_some known ≡ false → IsFine said → IsFine (if_lrn_new known is_repeat said)
fine_new None is_repeat said new fine = fine
fine_new (Some m) is_repeat said new fine = cc

fine_named : (unregistered : Refusal) (holder : Option HolderRow) (t : ℕ) (o : Option Guarantee) (said_of : Guarantee → Said) → ((g : Guarantee) → o ≡ Some g → IsFine (said_of g))
    → IsFine (on_guarantee unregistered holder t o said_of)
fine_named unregistered holder t o said_of each =
    fine_or unregistered holder (λ row. refuse_if ClockBack (is_back t row) (or_refuse NoGuarantee o said_of))
    (λ row is. fine_if ClockBack (is_back t row) (or_refuse NoGuarantee o said_of) (fine_or NoGuarantee o said_of each))

fine_moved : (unregistered : Refusal) (holder : Option HolderRow) (t : ℕ) (o : Option Movement) (to : Move) (said_of : Movement → Said) → ((m : Movement) → o ≡ Some m → IsFine (said_of m))
    → IsFine (on_movement unregistered holder t o to said_of)
fine_moved unregistered holder t o to said_of each =
    let moving = λ (m : Movement). or_refuse (WrongState m.state) (state_after m.state to) (λ state. said_of m) in
    fine_or unregistered holder (λ row. refuse_if ClockBack (is_back t row) (or_refuse NoMovement o moving))
    (λ row is. fine_if ClockBack (is_back t row) (or_refuse NoMovement o moving)
    (fine_or NoMovement o moving (λ m found. fine_or (WrongState m.state) (state_after m.state to) (λ state. said_of m) (λ state after. each m found))))

-- ---- what is found

-- what is found by a key has it
has_key : {R : Type 0} (key : R → List ℕ) (k : List ℕ) (rows : List R) (r : R) → find (λ r. bytes_eq (key r) k) rows ≡ Some r → key r ≡ k
has_key key k [] r found = cc
has_key {R} key k (h ∷ rows) r found = by_test (bytes_eq (key h) k) refl found (has_key key k rows r)
  where
    by_test : (b : Bool) → bytes_eq (key h) k ≡ b → cond {A = Option R} b (Some h) (find (λ r. bytes_eq (key r) k) rows) ≡ Some r
        → (find (λ r. bytes_eq (key r) k) rows ≡ Some r → key r ≡ k) → key r ≡ k
    by_test true is here later = let one : h ≡ r = cc in ap key (sym one) ∙ (bytes_eq-Decides (key h) k).0 is
    by_test false other here later = later here

-- and what each has
has_each : {R : Type 0} (P : R → Type 0) (key : R → List ℕ) (k : List ℕ) (rows : List R) (r : R) → AllByRecursion P rows → find (λ r. bytes_eq (key r) k) rows ≡ Some r → P r
has_each P key k [] r all found = cc
has_each {R} P key k (h ∷ rows) r all found = by_test (bytes_eq (key h) k) found (has_each P key k rows r all.1)
  where
    by_test : (b : Bool) → cond {A = Option R} b (Some h) (find (λ r. bytes_eq (key r) k) rows) ≡ Some r → (find (λ r. bytes_eq (key r) k) rows ≡ Some r → P r) → P r
    by_test true here later = let one : h ≡ r = cc in subst P one all.0
    by_test false here later = later here

-- the codes of a guarantee have their form
abbrev HasCodes : Guarantee → Type 0
HasCodes g = All IsAccessCode g.codes

-- an account of a country, with guarantees whose codes have their form
record IsFormed (a : Account) : Type 0 where
  country : IsCountry a.country
  codes : AllByRecursion HasCodes a.guarantees

-- ---- the table

module _ (a : Account) (t : ℕ) (formed : IsFormed a) where
  fine_guarantee : (unregistered : Refusal) (grn : List ℕ) (said_of : Guarantee → Said) → IsGrn grn
      → ((g : Guarantee) → IsGrn g.grn → HasCodes g → IsFine (said_of g))
      → IsFine (on_guarantee unregistered a.holder t (guarantee_by_grn grn a.guarantees) said_of)
  fine_guarantee unregistered grn said_of form each =
      fine_named unregistered a.holder t (guarantee_by_grn grn a.guarantees) said_of
      (λ g found. each g (subst IsGrn (sym (has_key (λ (g : Guarantee). g.grn) grn a.guarantees g found)) form) (has_each HasCodes (λ (g : Guarantee). g.grn) grn a.guarantees g formed.codes found))

  fine_movement : (unregistered : Refusal) (mrn : List ℕ) (to : Move) (said_of : Movement → Said) → IsMrn mrn → ((m : Movement) → IsMrn m.mrn → IsFine (said_of m))
      → IsFine (on_movement unregistered a.holder t (movement_by_mrn mrn a.movements) to said_of)
  fine_movement unregistered mrn to said_of form each =
      fine_moved unregistered a.holder t (movement_by_mrn mrn a.movements) to said_of (λ m found. each m (subst IsMrn (sym (has_key (λ (m : Movement). m.mrn) mrn a.movements m found)) form))

  fine_at : (command : Command) → IsTyped command → is_changing command ≡ true → has_known_lrn a command ≡ false → IsFine (said_at a t command)
  fine_at (Register holder eori) typed changing new = fine_if _ (is_some a.holder) _ (λ answered. holder_told holder eori 0 0 typed.0.1)
  fine_at (OpenGuarantee holder reference cover code) typed changing new =
      fine_or _ a.holder _ (λ row is. fine_if ClockBack (is_back t row) _ (fine_if SerialsSpent (is_spent greatest_grn_given row.grn_count) _ (λ answered. opening_told _ (made_is_reference 6 (year2_at t) a.country holder (row.grn_count + 1) formed.country))))
  fine_at (Amend grn reference cover) typed changing new =
      fine_guarantee _ grn _ typed.0.0 (λ g form codes. fine_if _ _ _ (λ answered. guarantee_told (amended reference cover g) _ form codes))
  fine_at (Revoke grn) typed changing new = fine_guarantee _ grn _ typed.0 (λ g form codes. fine_if _ _ _ (λ answered. revocation_told _ g.grn form))
  fine_at (Ie015 holder lrn departure destination lines) typed changing new =
      fine_or _ a.holder _ (λ row is. fine_if _ _ _ (fine_new (movement_by_lrn lrn a.movements) _ _ new (fine_if _ _ _ (fine_unless _ _
      (λ answered. declaration_told lrn _ typed.0.1 (lettered_form (year2_at t) a.country holder (row.mrn_count + 1) formed.country))))))
  fine_at (Ie014 holder mrn) typed changing new = fine_movement _ mrn _ _ typed.0.1 (λ m form answered. cancellation_told m.mrn form)
  fine_at (AddCode holder grn code) typed changing new =
      fine_guarantee _ grn _ typed.0.1 (λ g form codes. fine_if CodeKnown (stands code g.codes) _ (fine_if CodesFull (nat_le most_codes (length g.codes)) _
      (λ answered. guarantee_told (coded code g) (used_on g.grn a.movements) form (all_with IsAccessCode code g.codes codes typed.0.2))))
  fine_at (RemoveCode holder grn code) typed changing new =
      fine_guarantee _ grn _ typed.0.1 (λ g form codes. fine_if NoCode (not (stands code g.codes)) _ (fine_if LastCode (nat_le (length g.codes) 1) _
      (λ answered. guarantee_told (uncoded code g) (used_on g.grn a.movements) form (all_without IsAccessCode code g.codes codes))))
  fine_at (Ie029 mrn limit) typed changing new =
      fine_movement _ mrn _ _ typed.0.0 (λ m form. fine_if _ _ _ (fine_unless _ _ (λ answered. release_told limit m.mrn form)))
  fine_at (Ie007 mrn office) typed changing new = fine_movement _ mrn _ _ typed.0.0 (λ m form answered. arrival_told _ m.mrn form)
  fine_at (Ie018 mrn result) typed changing new = fine_movement _ mrn _ _ typed.0 (λ m form answered. control_told m.mrn (judged result) form)
  fine_at (Ie045 mrn cause) typed changing new = fine_movement _ mrn _ _ typed.0 (λ m form answered. write_off_told m.mrn form)
  fine_at (Ie140 mrn) typed changing new = fine_movement _ mrn _ _ typed.0 (λ m form. fine_if _ _ _ (λ answered. enquiry_told m.mrn form))
  fine_at (SeeHolder holder) typed changing new = cc
  fine_at (SeeMovement holder mrn) typed changing new = cc
  fine_at (SeeMovements holder) typed changing new = cc
  fine_at (SeeGuarantee holder grn) typed changing new = cc
  fine_at (SeeGuarantees holder) typed changing new = cc

  told_at : (command : Command) → IsTyped command → is_accepted_at a t command ≡ true → IsTold (said_at a t command)
  told_at command typed accepted =
      let parts = and_parts (is_changing command && is_answer (said_at a t command)) (not (has_known_lrn a command)) accepted in
      let both = and_parts (is_changing command) (is_answer (said_at a t command)) parts.0 in
      fine_at command typed both.0 (not-true _ parts.1) both.1

-- what is accepted is no view
changing_in : (m : Option ℕ) (a : Account) (command : Command) → is_accepted_in m a command ≡ true → is_changing command ≡ true
changing_in None a command accepted = cc
changing_in (Some t) a command accepted =
    let parts = and_parts (is_changing command && is_answer (said_at a t command)) (not (has_known_lrn a command)) accepted in
    (and_parts (is_changing command) (is_answer (said_at a t command)) parts.0).0

pub change_is_changing : (c : Content) (s : Stamped) → is_change_at c s ≡ true → is_changing s.command ≡ true
change_is_changing c s accepted = changing_in (moment_of s.at) (owner_account c s.command) s.command accepted

told_in : (m : Option ℕ) (a : Account) (command : Command) → IsFormed a → IsTyped command → is_accepted_in m a command ≡ true → IsTold (said_in m a command)
told_in None a command formed typed accepted = cc
told_in (Some t) a command formed typed accepted = told_at a t formed command typed accepted

-- ---- sound rows

numbered_codes : (country : List ℕ) (H n : ℕ) (gs : List Guarantee) → AllNumbered (IsGuaranteeRow country H) n gs → AllByRecursion HasCodes gs
numbered_codes country H n [] all = tt
numbered_codes country H n (g ∷ gs) all = (all.0.codes.form, numbered_codes country H (n + 1) gs all.1)

formed_with : (country : List ℕ) (found : Option HolderRows) → IsCountry country → IfSome found (AreHolderRows country) → IsFormed (account_with country found)
formed_with country None form rules = record { country = form; codes = tt }
formed_with country (Some h) form rules = record { country = form; codes = numbered_codes country h.row.holder 0 h.guarantees rules.guarantees }

formed_for : (o : Option ℕ) (c : Content) → IsSound c → IsFormed (kept_for o c)
formed_for None c sound = record { country = sound.country; codes = tt }
formed_for (Some H) c sound =
    formed_with c.country (rows_of H c) sound.country (All-row_at holder_key (AreHolderRows c.country) H c.holders sound.holders)

-- what a desk of sound rows says of a change that it accepts
pub change_told : (c : Content) (s : Stamped) → IsSound c → IsTyped s.command → is_change_at c s ≡ true → IsTold (said_over c s)
change_told c s sound typed accepted =
    told_in (moment_of s.at) (owner_account c s.command) s.command
    (subst IsFormed (sym (owner_account_is_kept c s.command)) (formed_for (owner_of c.country s.command) c sound)) typed accepted
