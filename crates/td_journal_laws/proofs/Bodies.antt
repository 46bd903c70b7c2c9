-- The bodies of what is said of accepted changes: they are as they are shown, and stand on one line.
use Rattle.std.proofs.Common.{◌≡◌, ℕ, Bool, List, [], ◌∷◌, ◌++◌, All, map, Option, None, Some, refl, sym, ap, subst, ◌∙◌, arith, append_assoc, true}
use Rattle.std.proofs.lemmas.List.Elements.{All-head, All-tail}
use Rattle.std.specs.Prelude.{codes, decimal, flat_map}
use Rattle.serde_json.specs.Data.{Data, member, no_members, number, object, string, unsigned}
use Rattle.serde_json.specs.View.{items_of}
use Rattle.td_answers.specs.Answers.{said_body, said_data}
use Rattle.td_answers.specs.Objects.{codes_data, day_body, day_data}
use Rattle.td_answers.specs.Unescaped.{in_brackets, in_quotes}
use Rattle.td_base.specs.Codes.{IsAccessCode, IsEori, IsLrn}
use Rattle.td_base.specs.References.{IsGrn, IsMrn}
use Rattle.td_commands.specs.declared.said.Answer.TheVariants as answer
use Rattle.td_commands.specs.declared.said.Said.{Said}
use Rattle.td_commands.specs.declared.said.Said.TheVariants.{Answered}
use Rattle.td_guarantee.specs.declared.guarantee.Guarantee.{Guarantee}
use Rattle.td_journal_rows.specs.Rows.{HasNoLineFeed}
use Rattle.td_journal_laws.proofs.Characters.{code_plain, day_plain, eori_plain, holder_plain, lrn_plain, reference_plain, state_plain}
use Rattle.td_journal_laws.proofs.Plain.{ArePlain, IsPlain, items_shown, one_line, shown, written}
use Rattle.td_movement.specs.declared.state.State.{State}
use Rattle.td_redo.specs.Replies.{body_text}

pub record IsTold (words : Said) : Type 0 where
  pub same : said_body words ≡ body_text words
  pub line : HasNoLineFeed (body_text words)

told_by : (words : Said) → IsPlain (said_data words) → shown (said_data words) ≡ body_text words → IsTold words
told_by words plain same = record {
  same = written (said_data words) plain ∙ same;
  line = subst HasNoLineFeed same (one_line (said_data words) plain);
}

pub holder_told : (holder : ℕ) (eori : List ℕ) (g m : ℕ) → IsEori eori → IsTold (Answered (answer.Holder holder eori g m))
holder_told holder eori g m h =
    told_by _ (refl, eori_plain eori h, (refl, tt, (refl, holder_plain holder, (refl, tt, tt)))) (simp append_assoc)

pub opening_told : (grn : List ℕ) → IsGrn grn → IsTold (Answered (answer.Opened grn))
opening_told grn h = told_by _ (refl, reference_plain 17 grn (omega arith) h, tt) (simp append_assoc)

pub revocation_told : (ends : ℕ) (grn : List ℕ) → IsGrn grn → IsTold (Answered (answer.Revoked ends grn))
revocation_told ends grn h = told_by _ (refl, day_plain ends, (refl, reference_plain 17 grn (omega arith) h, tt)) (simp append_assoc)

pub declaration_told : (lrn mrn : List ℕ) → IsLrn lrn → IsMrn mrn → IsTold (Answered (answer.Ie028 lrn mrn))
declaration_told lrn mrn l m = told_by _ (refl, lrn_plain lrn l, (refl, refl, (refl, reference_plain 18 mrn (omega arith) m, tt))) (simp append_assoc)

pub cancellation_told : (mrn : List ℕ) → IsMrn mrn → IsTold (Answered (answer.Ie014 mrn))
cancellation_told mrn h = told_by _ (refl, refl, (refl, reference_plain 18 mrn (omega arith) h, (refl, refl, tt))) (simp append_assoc)

pub release_told : (limit : ℕ) (mrn : List ℕ) → IsMrn mrn → IsTold (Answered (answer.Ie029 limit mrn))
release_told limit mrn h = told_by _ (refl, day_plain limit, (refl, refl, (refl, reference_plain 18 mrn (omega arith) h, (refl, refl, tt)))) (simp append_assoc)

pub arrival_told : (late : Bool) (mrn : List ℕ) → IsMrn mrn → IsTold (Answered (answer.Ie006 late mrn))
arrival_told late mrn h = told_by _ (refl, tt, (refl, refl, (refl, reference_plain 18 mrn (omega arith) h, tt))) (simp append_assoc)

pub control_told : (mrn : List ℕ) (state : State) → IsMrn mrn → IsTold (Answered (answer.Ie018 mrn state))
control_told mrn state h = told_by _ (refl, refl, (refl, reference_plain 18 mrn (omega arith) h, (refl, state_plain state, tt))) (simp append_assoc)

pub write_off_told : (mrn : List ℕ) → IsMrn mrn → IsTold (Answered (answer.Ie045 mrn))
write_off_told mrn h = told_by _ (refl, refl, (refl, reference_plain 18 mrn (omega arith) h, (refl, refl, tt))) (simp append_assoc)

pub enquiry_told : (mrn : List ℕ) → IsMrn mrn → IsTold (Answered (answer.Ie140 mrn))
enquiry_told mrn h = told_by _ (refl, refl, (refl, reference_plain 18 mrn (omega arith) h, (refl, refl, tt))) (simp append_assoc)

-- ---- guarantees

are_plain : (codes : List (List ℕ)) → All IsAccessCode codes → ArePlain (items_of (map string codes))
are_plain [] all = tt
are_plain (code ∷ codes) all = (code_plain code (All-head IsAccessCode code codes all), are_plain codes (All-tail IsAccessCode code codes all))

later_shown : (texts : List (List ℕ)) → items_shown true (items_of (map string texts)) ≡ flat_map (λ next. codes "," ++ next) (map in_quotes texts) ++ codes "]"
later_shown [] = refl
later_shown (text ∷ texts) =
    ap (λ (rest : List ℕ). 44 ∷ (in_quotes text ++ rest)) (later_shown texts)
    ∙ ap (λ (all : List ℕ). 44 ∷ all) (sym (append_assoc (in_quotes text) (flat_map (λ next. codes "," ++ next) (map in_quotes texts)) (codes "]")))

codes_shown : (texts : List (List ℕ)) → shown (codes_data texts) ≡ in_brackets (map in_quotes texts)
codes_shown [] = refl
codes_shown (text ∷ texts) =
    ap (λ (rest : List ℕ). 91 ∷ (in_quotes text ++ rest)) (later_shown texts)
    ∙ ap (λ (all : List ℕ). 91 ∷ all) (sym (append_assoc (in_quotes text) (flat_map (λ next. codes "," ++ next) (map in_quotes texts)) (codes "]")))

day_is_plain : (day : Option ℕ) → IsPlain (day_data day)
day_is_plain None = tt
day_is_plain (Some day) = day_plain day

day_shown : (day : Option ℕ) → shown (day_data day) ≡ day_body day
day_shown None = refl
day_shown (Some day) = refl

-- an object of the parts of a guarantee
guarantee_object : (codes_of ends : Data) (codes_of' ends' grn : List ℕ) (cover free guaranteed reference used : ℕ) → shown codes_of ≡ codes_of' → shown ends ≡ ends'
    → shown (object (member (codes "codes") codes_of (member (codes "cover") (number (unsigned cover)) (member (codes "ends") ends (member (codes "free") (number (unsigned free)) (member (codes "grn") (string grn)
    (member (codes "guaranteed") (number (unsigned guaranteed)) (member (codes "reference") (number (unsigned reference)) (member (codes "used") (number (unsigned used)) no_members)))))))))
    ≡ codes "{\"codes\":" ++ (codes_of' ++ (codes ",\"cover\":" ++ (decimal cover ++ (codes ",\"ends\":" ++ (ends' ++ (codes ",\"free\":" ++ (decimal free ++ (codes ",\"grn\":" ++ (in_quotes grn
    ++ (codes ",\"guaranteed\":" ++ (decimal guaranteed ++ (codes ",\"reference\":" ++ (decimal reference ++ (codes ",\"used\":" ++ (decimal used ++ codes "}")))))))))))))))
guarantee_object a b a' b' grn cover free guaranteed reference used same_a same_b = rw (same_a, same_b) refl

pub guarantee_told : (g : Guarantee) (used : ℕ) → IsGrn g.grn → All IsAccessCode g.codes → IsTold (Answered (answer.Guarantee g used))
guarantee_told g used grn codes =
    told_by _ (refl, are_plain g.codes codes, (refl, tt, (refl, day_is_plain g.ends, (refl, tt, (refl, reference_plain 17 g.grn (omega arith) grn, (refl, tt, (refl, tt, (refl, tt, tt))))))))
    (guarantee_object (codes_data g.codes) (day_data g.ends) _ _ g.grn _ _ _ _ _ (codes_shown g.codes) (day_shown g.ends))
