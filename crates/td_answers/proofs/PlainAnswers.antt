-- The bodies of answers and refusals: nothing in them is escaped.
use Rattle.std.proofs.Common.{◌≡◌, ℕ, List, ◌++◌, Bool, true, false, refl, ◌∙◌, arith, append_assoc}
use Rattle.std.specs.List.{list_all}
use Rattle.std.specs.Prelude.{codes, decimal}
use Rattle.serde_json.specs.Data.{Data, boolean, number, unsigned, string, object, member, no_members}
use Rattle.serde_json.specs.Written.{compact_text}
use Rattle.serde_json.proofs.OnLiterals.{serde_json_on_literals}
use Rattle.td_answers.specs.Unescaped.{is_unescaped}
use Rattle.td_answers.proofs.Texts.{written_text}
use Rattle.td_base.specs.Codes.{IsLrn, IsEori, holder_text}
use Rattle.td_base.specs.Days.{day_text}
use Rattle.td_base.specs.References.{IsGrn, IsMrn}
use Rattle.td_movement.specs.States.{state_name}
use Rattle.td_movement.specs.declared.state.State.{State}
use Rattle.td_movement.specs.declared.state.State.TheVariants.{Cancelled, Enquired, WrittenOff}
use Rattle.td_commands.specs.declared.said.Answer.TheVariants.{Holder, Opened, Revoked, Ie028, Ie014, Ie029, Ie006, Ie018, Ie045, Ie140}
use Rattle.td_commands.specs.declared.said.Refusal.TheVariants.{OverReference}
use Rattle.td_commands.specs.declared.said.Said.TheVariants.{Answered, Refused}
use Rattle.td_answers.specs.Answers.{answer_body, said_body, state_data}
use Rattle.td_answers.specs.Objects.{truth_body}
use Rattle.td_answers.specs.Refusals.{refusal_body}
use Rattle.td_answers.proofs.PlainObjects.{written_day, written_state}
use Rattle.td_answers.proofs.PlainText.{written_eori, written_holder, written_lrn, written_reference}

-- ---- answers on holders and guarantees

-- an object of a text, a number, a text and a number
holder_object : (e h : Data) (te th : List ℕ) (g m : ℕ) → compact_text e ≡ te → compact_text h ≡ th
    → compact_text (object (member (codes "eori") e (member (codes "guarantees") (number (unsigned g)) (member (codes "holder") h (member (codes "movements") (number (unsigned m)) no_members)))))
    ≡ codes "{\"eori\":" ++ (te ++ (codes ",\"guarantees\":" ++ (decimal g ++ (codes ",\"holder\":" ++ (th ++ (codes ",\"movements\":" ++ (decimal m ++ codes "}")))))))
unfolding serde_json_on_literals
holder_object e h te th g m same_e same_h = rw (same_e, same_h) refl

-- what is told of a holder
pub holder_told : (holder : ℕ) (eori : List ℕ) (guarantees movements : ℕ) → IsEori eori → said_body (Answered (Holder holder eori guarantees movements)) ≡ answer_body (Holder holder eori guarantees movements)
holder_told holder eori guarantees movements h =
    holder_object (string eori) (string (holder_text holder)) _ _ guarantees movements (written_eori eori h) (written_holder holder) ∙ simp append_assoc

-- an object of a text
opened_object : (g : Data) (tg : List ℕ) → compact_text g ≡ tg → compact_text (object (member (codes "grn") g no_members)) ≡ codes "{\"grn\":" ++ (tg ++ codes "}")
unfolding serde_json_on_literals
opened_object g tg same = rw same refl

-- what is told of an opening
pub opening_told : (grn : List ℕ) → IsGrn grn → said_body (Answered (Opened grn)) ≡ answer_body (Opened grn)
opening_told grn h = opened_object (string grn) _ (written_reference 17 grn (omega arith) h) ∙ simp append_assoc

-- an object of two texts
revoked_object : (e g : Data) (te tg : List ℕ) → compact_text e ≡ te → compact_text g ≡ tg
    → compact_text (object (member (codes "ends") e (member (codes "grn") g no_members)))
    ≡ codes "{\"ends\":" ++ (te ++ (codes ",\"grn\":" ++ (tg ++ codes "}")))
unfolding serde_json_on_literals
revoked_object e g te tg same_e same_g = rw (same_e, same_g) refl

-- what is told of a revocation
pub revocation_told : (ends : ℕ) (grn : List ℕ) → IsGrn grn
    → said_body (Answered (Revoked ends grn)) ≡ answer_body (Revoked ends grn)
revocation_told ends grn h =
    revoked_object (string (day_text ends)) (string grn) _ _ (written_day ends) (written_reference 17 grn (omega arith) h)
    ∙ simp append_assoc

-- ---- messages about movements

-- an object of a text, the message's name and a text
ie028_object : (l m : Data) (tl tm : List ℕ) → compact_text l ≡ tl → compact_text m ≡ tm
    → compact_text (object (member (codes "lrn") l (member (codes "message") (string (codes "IE028")) (member (codes "mrn") m no_members))))
    ≡ codes "{\"lrn\":" ++ (tl ++ (codes ",\"message\":\"IE028\",\"mrn\":" ++ (tm ++ codes "}")))
unfolding serde_json_on_literals
ie028_object l m tl tm same_l same_m = rw (same_l, same_m) refl

-- what is told of a declaration
pub declaration_told : (lrn mrn : List ℕ) → IsLrn lrn → IsMrn mrn → said_body (Answered (Ie028 lrn mrn)) ≡ answer_body (Ie028 lrn mrn)
declaration_told lrn mrn hl hm =
    ie028_object (string lrn) (string mrn) _ _ (written_lrn lrn hl) (written_reference 18 mrn (omega arith) hm) ∙ simp append_assoc

-- an object of the message's name, a text and the state
state_object : (l m s : Data) (tl tm ts : List ℕ) → compact_text l ≡ tl → compact_text m ≡ tm → compact_text s ≡ ts
    → compact_text (object (member (codes "message") l (member (codes "mrn") m (member (codes "state") s no_members))))
    ≡ codes "{\"message\":" ++ (tl ++ (codes ",\"mrn\":" ++ (tm ++ (codes ",\"state\":" ++ (ts ++ codes "}")))))
unfolding serde_json_on_literals
state_object l m s tl tm ts same_l same_m same_s = rw (same_l, same_m, same_s) refl

-- it is written so under a name in which nothing is escaped
pub written_message : (message : List ℕ) (m s : Data) → list_all is_unescaped message ≡ true
    → compact_text (object (member (codes "message") (string message) (member (codes "mrn") m (member (codes "state") s no_members))))
    ≡ codes "{\"message\":\"" ++ (message ++ (codes "\",\"mrn\":" ++ (compact_text m ++ (codes ",\"state\":" ++ (compact_text s ++ codes "}")))))
written_message message m s plain =
    state_object (string message) m s _ _ _ (written_text message plain) refl refl ∙ simp append_assoc

-- the texts of such an object
pub state_texts : (message mrn : List ℕ) (state : State) → list_all is_unescaped message ≡ true → IsMrn mrn
    → compact_text (state_data message mrn (state_name state))
    ≡ codes "{\"message\":\"" ++ (message ++ (codes "\",\"mrn\":\"" ++ (mrn ++ (codes "\",\"state\":\"" ++ (state_name state ++ codes "\"}")))))
state_texts message mrn state plain h =
    state_object (string message) (string mrn) (string (state_name state)) _ _ _ (written_text message plain) (written_reference 18 mrn (omega arith) h) (written_state state)
    ∙ simp append_assoc

-- what is told of a cancellation
pub cancellation_told : (mrn : List ℕ) → IsMrn mrn → said_body (Answered (Ie014 mrn)) ≡ answer_body (Ie014 mrn)
cancellation_told mrn h = state_texts (codes "IE014") mrn Cancelled refl h

-- what is told of the result of a control
pub control_told : (mrn : List ℕ) (state : State) → IsMrn mrn → said_body (Answered (Ie018 mrn state)) ≡ answer_body (Ie018 mrn state)
control_told mrn state h = state_texts (codes "IE018") mrn state refl h

-- what is told of a write-off
pub write_off_told : (mrn : List ℕ) → IsMrn mrn → said_body (Answered (Ie045 mrn)) ≡ answer_body (Ie045 mrn)
write_off_told mrn h = state_texts (codes "IE045") mrn WrittenOff refl h

-- what is told of a request on a movement that has not arrived
pub enquiry_told : (mrn : List ℕ) → IsMrn mrn → said_body (Answered (Ie140 mrn)) ≡ answer_body (Ie140 mrn)
enquiry_told mrn h = state_texts (codes "IE140") mrn Enquired refl h

-- an object of a text, the message's name, a text and the state
release_object : (l m : Data) (tl tm : List ℕ) → compact_text l ≡ tl → compact_text m ≡ tm
    → compact_text (object (member (codes "limit") l (member (codes "message") (string (codes "IE029")) (member (codes "mrn") m (member (codes "state") (string (codes "released")) no_members)))))
    ≡ codes "{\"limit\":" ++ (tl ++ (codes ",\"message\":\"IE029\",\"mrn\":" ++ (tm ++ codes ",\"state\":\"released\"}")))
unfolding serde_json_on_literals
release_object l m tl tm same_l same_m = rw (same_l, same_m) refl

-- what is told of a release
pub release_told : (limit : ℕ) (mrn : List ℕ) → IsMrn mrn → said_body (Answered (Ie029 limit mrn)) ≡ answer_body (Ie029 limit mrn)
release_told limit mrn h =
    release_object (string (day_text limit)) (string mrn) _ _ (written_day limit) (written_reference 18 mrn (omega arith) h)
    ∙ simp append_assoc

-- whether it is so
written_truth : (b : Bool) → compact_text (boolean b) ≡ truth_body b
written_truth true = refl
written_truth false = refl

-- an object of whether it is so, the message's name and a text
advice_object : (l m : Data) (tl tm : List ℕ) → compact_text l ≡ tl → compact_text m ≡ tm
    → compact_text (object (member (codes "late") l (member (codes "message") (string (codes "IE006")) (member (codes "mrn") m no_members))))
    ≡ codes "{\"late\":" ++ (tl ++ (codes ",\"message\":\"IE006\",\"mrn\":" ++ (tm ++ codes "}")))
unfolding serde_json_on_literals
advice_object l m tl tm same_l same_m = rw (same_l, same_m) refl

-- what is told of an arrival
pub arrival_told : (late : Bool) (mrn : List ℕ) → IsMrn mrn → said_body (Answered (Ie006 late mrn)) ≡ answer_body (Ie006 late mrn)
arrival_told late mrn h =
    advice_object (boolean late) (string mrn) _ _ (written_truth late) (written_reference 18 mrn (omega arith) h)
    ∙ simp append_assoc

-- ---- refusals

-- an object of the error's name, a number and a text
over_reference_object : (g : Data) (tg : List ℕ) (free : ℕ) → compact_text g ≡ tg
    → compact_text (object (member (codes "error") (string (codes "over-reference")) (member (codes "free") (number (unsigned free)) (member (codes "grn") g no_members))))
    ≡ codes "{\"error\":\"over-reference\",\"free\":" ++ (decimal free ++ (codes ",\"grn\":" ++ (tg ++ codes "}")))
unfolding serde_json_on_literals
over_reference_object g tg free same = rw same refl

-- what is told of a line that is more than what is free on its guarantee
pub over_reference_told : (free : ℕ) (grn : List ℕ) → IsGrn grn
    → said_body (Refused (OverReference free grn)) ≡ refusal_body (OverReference free grn)
over_reference_told free grn h =
    over_reference_object (string grn) _ free (written_reference 17 grn (omega arith) h) ∙ simp append_assoc
