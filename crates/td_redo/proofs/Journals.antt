-- Rows of accepted changes, one after the other.
use Rattle.std.proofs.Common.{◌≡◌, ◌≢◌, ◌⊎◌, ℕ, List, [], ◌∷◌, ◌++◌, refl, sym, ◌∙◌, subst, inl, inr}
use Rattle.td_commands.specs.declared.said.Said.{Said}
use Rattle.td_model.specs.Content.{Content, IsSound}
use Rattle.td_redo.specs.Endings.{IsRedoneAs}
use Rattle.td_redo.specs.Redo.{Row, IsDone, AreDone}
use Rattle.td_redo.specs.Replies.{body_text}
use Rattle.td_redo.specs.Laws.{JournalMakesOneContent, StartIsWhole, StartMayBeginAgain}
use Rattle.td_redo.specs.declared.redoing.Redone.{Redone}
use Rattle.td_redo.specs.declared.redoing.Redone.TheVariants.{Carried, Foreign}
use Rattle.td_redo.proofs.Contents.{carried_alike}
use Rattle.td_redo.proofs.Endings.{row_that_is_due_is_carried, row_that_stands_is_told}

-- what they make of a sound content is sound
pub sound_done : (X : Type 0) (shown : Said → X) (begin end : Content) (rows : List (Row X)) → IsSound begin → AreDone shown begin rows end → IsSound end
sound_done X shown begin end [] sound done = subst IsSound (sym done) sound
sound_done X shown begin end (row ∷ rows) sound done = sound_done X shown done.0 end rows done.1.carried.sound done.2

-- one more row
one_more : (X : Type 0) (shown : Said → X) (begin before after : Content) (rows : List (Row X)) (row : Row X)
    → AreDone shown begin rows before → IsDone shown before row after → AreDone shown begin (rows ++ row ∷ []) after
one_more X shown begin before after [] row done last = (after, subst (λ (c : Content). IsDone shown c row after) done last, refl)
one_more X shown begin before after (r ∷ rows) row done last = (done.0, done.1, one_more X shown done.0 before after rows row done.2 last)

-- the last row is redone over what the file holds
redone_last : (before after file new : Content) (row : Row (List ℕ)) (ending : Redone) → IsSound before
    → IsDone body_text before row after → (file ≡ before) ⊎ (file ≡ after) → IsRedoneAs ending row.stamped row.shown file new → (ending ≢ Foreign) × (new ≡ after)
redone_last before after file new row ending sound last (inl is) ends =
    let due = row_that_is_due_is_carried before after new row ending last (subst (λ (c : Content). IsRedoneAs ending row.stamped row.shown c new) is ends) in
    (λ foreign. (let both : Carried ≡ Foreign = sym due.0 ∙ foreign in cc), due.1)
redone_last before after file new row ending sound last (inr is) ends =
    row_that_stands_is_told before after new row ending sound last (subst (λ (c : Content). IsRedoneAs ending row.stamped row.shown c new) is ends)

pub start_is_whole : StartIsWhole
start_is_whole begin before after file new rows row ending sound done last holds ends =
    let redone = redone_last before after file new row ending (sound_done (List ℕ) body_text begin before rows sound done) last holds ends in (
      redone.1,
      subst (λ (c : Content). AreDone body_text begin (rows ++ row ∷ []) c) (sym redone.1) (one_more (List ℕ) body_text begin before after rows row done last),
      redone.0,
    )

pub start_may_begin_again : StartMayBeginAgain
start_may_begin_again before after file left row sound last (inl is) (inl same) = inl (same ∙ is)
start_may_begin_again before after file left row sound last (inr is) (inl same) = inr (same ∙ is)
start_may_begin_again before after file left row sound last holds (inr ends) = inr (redone_last before after file left row Carried sound last holds ends).1

pub journal_makes_one_content : (X : Type 0) → JournalMakesOneContent X
journal_makes_one_content X shown begin one other [] first second = first ∙ sym second
journal_makes_one_content X shown begin one other (row ∷ rows) first second =
    let next : first.0 ≡ second.0 = carried_alike begin first.0 second.0 row.stamped first.1.carried second.1.carried in
    journal_makes_one_content X shown second.0 one other rows (subst (λ (c : Content). AreDone shown c rows one) next first.2) second.2
