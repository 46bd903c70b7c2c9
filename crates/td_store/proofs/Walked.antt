-- What calls of `next` give one after another.
use Rattle.std.proofs.Common.{◌≡◌, ◌∙◌, ℕ, List, [], ◌∷◌, ◌++◌, Err, None, Ok, Option, Result, Some, ap, refl, subst, sym}
use Rattle.std.specs.List.{FoldsTo}
use Rattle.td_model.specs.Content.{Content}
use Rattle.td_desk.specs.View.{DeskView}
use Rattle.td_desk.specs.declared.fault.Fault.{Fault}
use Rattle.td_table_model.specs.Tables.{Keyed}
use Rattle.td_store.specs.Laws.{WalksGiveWhatIsListed, given_by}
use Rattle.td_store.specs.Pulled.{HasFailed, IsNext, Walk, left_of}

module _ {D X : Type 0} (view : DeskView D) (all : Content → List (Keyed X)) where
  abbrev Answer : Type 0
  Answer = Result (Option (ℕ × X)) Fault

  abbrev Calls : Walk D → List Answer → Walk D → Type 0
  Calls old results new = FoldsTo (IsNext view all) old results new

  -- calls one after another have only looked at the desk
  pub record OnlyLook (old new : D) : Type 0 where
    pub clean : view.is_clean new → view.is_clean old
    pub live : view.is_clean new → view.is_live new → view.is_live old
    pub same : view.is_clean new → view.is_live new → view.content new ≡ view.content old

  only_look : (results : List Answer) (old new : Walk D) → Calls old results new → OnlyLook old.desk new.desk
  only_look [] old new same = subst (λ (w : Walk D). OnlyLook old.desk w.desk) same (record { clean = λ clean. clean; live = λ clean live. live; same = λ clean live. refl })
  only_look (r ∷ results) old new calls =
      let first = calls.1.looked in
      let rest = only_look results calls.0 new calls.2 in
      record {
        clean = λ clean. first.clean (rest.clean clean);
        live = λ clean live. first.live (rest.clean clean) (rest.live clean live);
        same = λ clean live. rest.same clean live ∙ first.same (rest.clean clean) (rest.live clean live);
      }

  -- after a call that failed none gives, nor finds that there is no more
  failed_gives : (fault : Fault) (results : List Answer) (old new : Walk D) → HasFailed fault old → Calls old results new → given_by results ≡ []
  failed_gives fault [] old new failed calls = refl
  failed_gives fault (r ∷ results) old new failed calls =
      let now = calls.1.failed fault failed in
      rw now.0 (failed_gives fault results calls.0 new (subst (HasFailed fault) (sym now.1) failed) calls.2)

  failed_ends_not : (fault : Fault) (before after : List Answer) (old new : Walk D) → HasFailed fault old → Calls old (before ++ Ok None ∷ after) new → ⊥
  failed_ends_not fault [] after old new failed calls = let now = (calls.1.failed fault failed).0 in cc
  failed_ends_not fault (r ∷ before) after old new failed calls =
      let now = calls.1.failed fault failed in
      failed_ends_not fault before after calls.0 new (subst (HasFailed fault) (sym now.1) failed) calls.2

  -- So what calls give comes first in what was left, ..
  gave_first : (results : List Answer) (old new : Walk D) → Calls old results new → view.is_clean new.desk → view.is_live old.desk
      → (rest : List (ℕ × X)) × (given_by results ++ rest ≡ left_of view all old)
  gave_first [] old new calls clean live = (left_of view all old, refl)
  gave_first (r ∷ results) old new calls clean live =
      by_answer r calls.1 (gave_first results calls.0 new calls.2 clean)
    where
      clean_mid : view.is_clean calls.0.desk
      clean_mid = (only_look results calls.0 new calls.2).clean clean

      by_answer : (r : Answer) → IsNext view all old r calls.0
          → (view.is_live calls.0.desk → (rest : List (ℕ × X)) × (given_by results ++ rest ≡ left_of view all calls.0))
          → (rest : List (ℕ × X)) × (given_by (r ∷ results) ++ rest ≡ left_of view all old)
      by_answer (Ok (Some x)) next later =
          let behind = later (next.looked.shown clean_mid refl).1 in
          (behind.0, ap (λ l. x ∷ l) behind.1 ∙ sym (next.gave clean_mid live))
      by_answer (Ok None) next later =
          let behind = later (next.looked.shown clean_mid refl).1 in
          let gave = next.gave clean_mid live in
          (behind.0, behind.1 ∙ gave.1 ∙ sym gave.0)
      by_answer (Err fault) next later =
          let none = failed_gives fault results calls.0 new (next.fails fault refl) calls.2 in
          (left_of view all old, rw none refl)

  -- .. and is all of it before a call that finds no more
  gave_all : (before after : List Answer) (old new : Walk D) → Calls old (before ++ Ok None ∷ after) new → view.is_clean new.desk
      → view.is_live old.desk → given_by before ≡ left_of view all old
  gave_all [] after old new calls clean live =
      let clean_mid = (only_look after calls.0 new calls.2).clean clean in sym (calls.1.gave clean_mid live).0
  gave_all (r ∷ before) after old new calls clean live = by_answer r calls.1 (gave_all before after calls.0 new calls.2 clean)
    where
      clean_mid : view.is_clean calls.0.desk
      clean_mid = (only_look (before ++ Ok None ∷ after) calls.0 new calls.2).clean clean

      by_answer : (r : Answer) → IsNext view all old r calls.0 → (view.is_live calls.0.desk → given_by before ≡ left_of view all calls.0)
          → given_by (r ∷ before) ≡ left_of view all old
      by_answer (Ok (Some x)) next later =
          ap (λ l. x ∷ l) (later (next.looked.shown clean_mid refl).1) ∙ sym (next.gave clean_mid live)
      by_answer (Ok None) next later =
          let gave = next.gave clean_mid live in later (next.looked.shown clean_mid refl).1 ∙ gave.1 ∙ sym gave.0
      by_answer (Err fault) next later = absurd (failed_ends_not fault before after calls.0 new (next.fails fault refl) calls.2)

  pub walks_give : (listed : Content → List (ℕ × X)) → WalksGiveWhatIsListed view all listed
  walks_give listed old new results left calls clean live =
      let gave = gave_first results old new calls clean live in (
        record {
          rest = gave.0;
          first = gave.1 ∙ left;
          whole = λ before after is. gave_all before after old new (subst (λ l. Calls old l new) is calls) clean live ∙ left;
        },
        (only_look results old new calls).same clean,
      )
