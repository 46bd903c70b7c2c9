-- What is said decides what is changed.
use Rattle.std.proofs.Common.{◌≡◌, ℕ, Bool, true, false, List, [], ◌∷◌, map, Option, Some, None, refl, sym, ◌∙◌, ap, ap₂}
use Rattle.std.specs.Prelude.{◌&&◌, not, if◌then◌else◌, option_map}
use Rattle.td_commands.specs.declared.command.Command.{Command}
use Rattle.td_commands.specs.declared.command.Command.TheVariants.{SeeGuarantee}
use Rattle.td_commands.specs.declared.said.Answer.{Answer}
use Rattle.td_commands.specs.declared.said.Answer.TheVariants as answer
use Rattle.td_commands.specs.declared.said.Refusal.TheVariants.{ClockBack, NoHolder, NoGuarantee, NoMovement, WrongState}
use Rattle.td_commands.specs.declared.said.Refusal.{Refusal}
use Rattle.td_commands.specs.declared.said.Said.{Said}
use Rattle.td_commands.specs.declared.said.Said.TheVariants.{Answered, Refused}
use Rattle.td_model.specs.declared.change.Change.{Change}
use Rattle.td_model.specs.declared.change.Change.TheVariants.{Nothing, Moved}
use Rattle.td_acts.specs.declared.rows.Verdict.{Verdict}
use Rattle.td_model.specs.declared.holder_row.HolderRow.{HolderRow}
use Rattle.td_model.specs.declared.change.NewStatus.{NewStatus}
use Rattle.td_movement.specs.declared.movement.Movement.{Movement}
use Rattle.td_movement.specs.declared.moves.Move.{Move}
use Rattle.td_movement.specs.Movements.{without_lines}
use Rattle.td_movement.specs.States.{state_after}
use Rattle.td_guarantee.specs.declared.guarantee.Guarantee.{Guarantee}
use Rattle.td_guarantee.specs.Usage.{used_on}
use Rattle.td_model.specs.Account.{Account, entry_in, guarantee_by_grn, movement_by_mrn}
use Rattle.td_acts.specs.declared.rows.Loaded.{Loaded}
use Rattle.td_commands.specs.Commands.{is_changing, Need, nothing, lodging, movement, status, release, all_movements, guarantee, all_guarantees}
use Rattle.td_model.specs.Machine.{is_answer, has_known_lrn}
use Rattle.td_acts.specs.Deciding.{IsLoaded, IsLookedUp, change_of, decision_at, if_row, touched}
use Rattle.td_model.specs.Table.{is_back, said_at, on_guarantee, on_movement, or_refuse, refuse_if}

abbrev verdict_of : Said → Change → Verdict
verdict_of said change = record { said = said; change = change }

-- a refusal changes nothing
pub told_refused : (account : Account) (t : ℕ) (command : Command) (why : Refusal) (v : Verdict) → v.said ≡ Refused why → v.change ≡ Nothing → said_at account t command ≡ Refused why → v ≡ decision_at account t command
told_refused account t command why v said change is = ap₂ verdict_of (said ∙ sym is) (change ∙ sym (unchanged (is_changing command) (said_at account t command) is))
  where
    unchanged : (b : Bool) (s : Said) → s ≡ Refused why → (if b && is_answer s && not (has_known_lrn account command) then change_of account t command else Nothing) ≡ Nothing
    unchanged true s is = rw is refl
    unchanged false s is = refl

-- an answer to a changing command that isn't a repeat changes what the command changes
pub told_answered : (account : Account) (t : ℕ) (command : Command) (a : Answer) (c : Change) (v : Verdict) → v.said ≡ Answered a → v.change ≡ c
    → is_changing command ≡ true → has_known_lrn account command ≡ false → said_at account t command ≡ Answered a → change_of account t command ≡ c → v ≡ decision_at account t command
told_answered account t command a c v said change changing fresh is does = ap₂ verdict_of (said ∙ sym is) (change ∙ sym does ∙ sym (changed (is_changing command) (said_at account t command) (has_known_lrn account command) changing is fresh))
  where
    changed : (b : Bool) (s : Said) (k : Bool) → b ≡ true → s ≡ Answered a → k ≡ false → (if b && is_answer s && not k then change_of account t command else Nothing) ≡ change_of account t command
    changed b s k changes is other = rw (changes, is, other) refl

-- what is said of a movement by its row is said of it where it was found without its lines
pub on_status : (unregistered : Refusal) (holder : Option HolderRow) (t : ℕ) (found kept : Option Movement) (to : Move) (said_of : Movement → Said)
    → ((m : Movement) → said_of (without_lines m) ≡ said_of m) → found ≡ option_map without_lines kept
    → on_movement unregistered holder t found to said_of ≡ on_movement unregistered holder t kept to said_of
on_status unregistered holder t found kept to said_of same is = ap (λ f. on_movement unregistered holder t f to said_of) is ∙ of_row kept
  where
    of_row : (kept : Option Movement) → on_movement unregistered holder t (option_map without_lines kept) to said_of ≡ on_movement unregistered holder t kept to said_of
    of_row None = refl
    of_row (Some m) = ap (λ s. or_refuse unregistered holder (λ row. refuse_if ClockBack (is_back t row) (or_refuse (WrongState m.state) (state_after m.state to) (λ state. s)))) (same m)

-- and where it was found whole
pub on_whole : (unregistered : Refusal) (holder : Option HolderRow) (t : ℕ) (found kept : Option Movement) (to : Move) (said_of : Movement → Said) → found ≡ kept
    → on_movement unregistered holder t found to said_of ≡ on_movement unregistered holder t kept to said_of
on_whole unregistered holder t found kept to said_of is = ap (λ f. on_movement unregistered holder t f to said_of) is

-- a refusal of what was found of a movement is one of the movement
pub told_unmoving : (account : Account) (holder : Option HolderRow) (found : Option Movement) (t : ℕ) (command : Command) (unregistered : Refusal) (mrn : List ℕ) (to : Move) (said_of : Movement → Said) (why : Refusal) (v : Verdict)
    → holder ≡ account.holder
    → on_movement unregistered account.holder t found to said_of ≡ on_movement unregistered account.holder t (movement_by_mrn mrn account.movements) to said_of
    → on_movement unregistered holder t found to said_of ≡ Refused why → v.said ≡ Refused why → v.change ≡ Nothing
    → said_at account t command ≡ on_movement unregistered account.holder t (movement_by_mrn mrn account.movements) to said_of
    → v ≡ decision_at account t command
told_unmoving account holder found t command unregistered mrn to said_of why v same_holder same_found on said change is_on =
    told_refused account t command why v said change
    (is_on ∙ sym same_found ∙ ap (λ h. on_movement unregistered h t found to said_of) (sym same_holder) ∙ on)

-- the same of a movement that moves, where the same is said of what was found of it as of what the account has
pub told_moved : (account : Account) (holder : Option HolderRow) (found : Option Movement) (t : ℕ) (command : Command) (unregistered : Refusal) (mrn : List ℕ) (to : Move) (said_of : Movement → Said) (row : HolderRow) (m : Movement) (a : Answer) (new : NewStatus) (v : Verdict)
    → holder ≡ account.holder
    → on_movement unregistered account.holder t found to said_of ≡ on_movement unregistered account.holder t (movement_by_mrn mrn account.movements) to said_of
    → holder ≡ Some row → on_movement unregistered holder t found to said_of ≡ said_of m → said_of m ≡ Answered a → v.said ≡ Answered a → v.change ≡ Moved (touched row t) new
    → is_changing command ≡ true → has_known_lrn account command ≡ false
    → said_at account t command ≡ on_movement unregistered account.holder t (movement_by_mrn mrn account.movements) to said_of
    → change_of account t command ≡ if_row account.holder (λ r. Moved (touched r t) new)
    → v ≡ decision_at account t command
told_moved account holder found t command unregistered mrn to said_of row m a new v same_holder same_found known on is said change changing fresh is_on is_moved =
    told_answered account t command a (Moved (touched row t) new) v said change changing fresh
    (is_on ∙ sym same_found ∙ ap (λ h. on_movement unregistered h t found to said_of) (sym same_holder) ∙ on ∙ is)
    (is_moved ∙ ap (λ h. if_row h (λ r. Moved (touched r t) new)) (sym same_holder ∙ known))

-- and of one that doesn't, for a reason of its own
pub told_unmoved : (account : Account) (holder : Option HolderRow) (found : Option Movement) (t : ℕ) (command : Command) (unregistered : Refusal) (mrn : List ℕ) (to : Move) (said_of : Movement → Said) (m : Movement) (why : Refusal) (v : Verdict)
    → holder ≡ account.holder
    → on_movement unregistered account.holder t found to said_of ≡ on_movement unregistered account.holder t (movement_by_mrn mrn account.movements) to said_of
    → on_movement unregistered holder t found to said_of ≡ said_of m → said_of m ≡ Refused why → v.said ≡ Refused why → v.change ≡ Nothing
    → said_at account t command ≡ on_movement unregistered account.holder t (movement_by_mrn mrn account.movements) to said_of
    → v ≡ decision_at account t command
told_unmoved account holder found t command unregistered mrn to said_of m why v same_holder same_found on is said change is_on =
    told_unmoving account holder found t command unregistered mrn to said_of why v same_holder same_found (on ∙ is) said change is_on

-- the row of a change, where the holder is registered
the_change : (holder : Option HolderRow) (t : ℕ) (row : HolderRow) (c : HolderRow → Change) → option_map (λ r. touched r t) holder ≡ Some row → if_row holder (λ r. c (touched r t)) ≡ c row
the_change None t row c is = cc
the_change (Some r) t row c is = let same : touched r t ≡ row = cc in ap c same

-- and the same of a guarantee, by its entry among those that were loaded
pub told_named : (account : Account) (holder : Option HolderRow) (found : Option Guarantee) (t : ℕ) (command : Command) (unregistered : Refusal) (grn : List ℕ) (said_of : Guarantee → Said) (row : HolderRow) (g : Guarantee) (a : Answer) (c : HolderRow → Change) (v : Verdict)
    → holder ≡ account.holder → found ≡ guarantee_by_grn grn account.guarantees
    → option_map (λ r. touched r t) holder ≡ Some row → on_guarantee unregistered holder t found said_of ≡ said_of g → said_of g ≡ Answered a → v.said ≡ Answered a → v.change ≡ c row
    → is_changing command ≡ true → has_known_lrn account command ≡ false
    → said_at account t command ≡ on_guarantee unregistered account.holder t (guarantee_by_grn grn account.guarantees) said_of
    → change_of account t command ≡ if_row account.holder (λ r. c (touched r t))
    → v ≡ decision_at account t command
told_named account holder found t command unregistered grn said_of row g a c v same_holder same_found known on is said change changing fresh is_on is_changed =
    told_answered account t command a (c row) v said change changing fresh
    (is_on ∙ ap₂ (λ h f. on_guarantee unregistered h t f said_of) (sym same_holder) (sym same_found) ∙ on ∙ is)
    (is_changed ∙ ap (λ h. if_row h (λ r. c (touched r t))) (sym same_holder) ∙ the_change holder t row c known)

pub told_unnamed : (account : Account) (holder : Option HolderRow) (found : Option Guarantee) (t : ℕ) (command : Command) (unregistered : Refusal) (grn : List ℕ) (said_of : Guarantee → Said) (why : Refusal) (v : Verdict)
    → holder ≡ account.holder → found ≡ guarantee_by_grn grn account.guarantees
    → on_guarantee unregistered holder t found said_of ≡ Refused why → v.said ≡ Refused why → v.change ≡ Nothing
    → said_at account t command ≡ on_guarantee unregistered account.holder t (guarantee_by_grn grn account.guarantees) said_of
    → v ≡ decision_at account t command
told_unnamed account holder found t command unregistered grn said_of why v same_holder same_found on said change is_on =
    told_refused account t command why v said change
    (is_on ∙ ap₂ (λ h f. on_guarantee unregistered h t f said_of) (sym same_holder) (sym same_found) ∙ on)

-- a guarantee in an entry
first_of : (used : Guarantee → ℕ) (o : Option Guarantee) → option_map (λ (e : Guarantee × ℕ). e.0) (option_map (λ g. (g, used g)) o) ≡ o
first_of used None = refl
first_of used (Some g) = refl

second_of : (used : Guarantee → ℕ) (o : Option Guarantee) (g : Guarantee) (u : ℕ) → option_map {U = Guarantee × ℕ} (λ g. (g, used g)) o ≡ Some (g, u) → u ≡ used g
second_of used None g u is = cc
second_of used (Some h) g u is =
    let pair : ◌≡◌ {A = Guarantee × ℕ} (h, used h) (g, u) = cc in
    sym (ap (λ (p : Guarantee × ℕ). p.1) pair) ∙ ap used (ap (λ (p : Guarantee × ℕ). p.0) pair)

-- the guarantee that was loaded is the account's
pub same_guarantee : (account : Account) (grn : List ℕ) (entry : Option (Guarantee × ℕ)) → entry ≡ entry_in account grn → option_map (λ (e : Guarantee × ℕ). e.0) entry ≡ guarantee_by_grn grn account.guarantees
same_guarantee account grn entry is = ap (option_map (λ (e : Guarantee × ℕ). e.0)) is ∙ first_of (λ g. used_on g.grn account.movements) (guarantee_by_grn grn account.guarantees)

-- and so is the amount in use on it
pub same_use : (account : Account) (grn : List ℕ) (entry : Option (Guarantee × ℕ)) (g : Guarantee) (used : ℕ) → entry ≡ entry_in account grn → entry ≡ Some (g, used) → used ≡ used_on g.grn account.movements
same_use account grn entry g used is has = second_of (λ g. used_on g.grn account.movements) (guarantee_by_grn grn account.guarantees) g used (sym is ∙ has)

-- what a view shows of what was loaded is what it shows of the same in the account
pub told_view : (loaded kept : Option HolderRow) (shown told : HolderRow → Said) (v : Verdict) → loaded ≡ kept → shown ≡ told
    → v.said ≡ or_refuse NoHolder loaded shown → v.change ≡ Nothing → v ≡ verdict_of (or_refuse NoHolder kept told) Nothing
told_view loaded kept shown told v same_holder same said change = ap₂ verdict_of (said ∙ ap₂ (or_refuse NoHolder) same_holder same) change

-- a guarantee and the amount in use on it, as a view shows them
abbrev pub shown_entry : Option HolderRow → Option (Guarantee × ℕ) → Said
shown_entry holder found = or_refuse NoHolder holder (λ row. or_refuse NoGuarantee found (λ e. Answered (answer.Guarantee e.0 e.1)))

-- what a view shows of an entry that was loaded is what it shows of the account's guarantee
pub told_shown : (account : Account) (holder : Option HolderRow) (found : Option (Guarantee × ℕ)) (t H : ℕ) (grn : List ℕ) (v : Verdict)
    → holder ≡ account.holder → found ≡ entry_in account grn → v.said ≡ shown_entry holder found → v.change ≡ Nothing → v ≡ decision_at account t (SeeGuarantee H grn)
told_shown account holder found t H grn v same_holder same_found said change =
    ap₂ verdict_of (said ∙ ap₂ shown_entry same_holder same_found ∙ of_guarantee account.holder (guarantee_by_grn grn account.guarantees)) change
  where
    of_guarantee : (h : Option HolderRow) (o : Option Guarantee) → shown_entry h (option_map (λ g. (g, used_on g.grn account.movements)) o)
        ≡ or_refuse NoHolder h (λ row. or_refuse NoGuarantee o (λ g. Answered (answer.Guarantee g (used_on g.grn account.movements))))
    of_guarantee None o = refl
    of_guarantee (Some row) None = refl
    of_guarantee (Some row) (Some g) = refl

-- what else is loaded of the same rows is loaded as they are
pub loaded_again : (account : Account) (need : Need) (loaded copy : Loaded) → copy.country ≡ loaded.country → copy.holder ≡ loaded.holder
    → copy.movements.items ≡ loaded.movements.items → copy.listed.items ≡ loaded.listed.items → copy.guarantees.items ≡ loaded.guarantees.items
    → IsLoaded account need loaded → IsLoaded account need copy
loaded_again account need loaded copy country holder movements listed guarantees is =
    record { country = country ∙ is.country; holder = holder ∙ is.holder; things = looked_up need is.things }
  where
    looked_up : (n : Need) → IsLookedUp account n loaded → IsLookedUp account n copy
    looked_up nothing things = tt
    looked_up (lodging lrn lines) things = rw (movements, guarantees) things
    looked_up (movement mrn) things = rw movements things
    looked_up (status mrn) things = rw movements things
    looked_up (release mrn) things = rw (movements, guarantees) things
    looked_up all_movements things = rw listed things
    looked_up (guarantee grn) things = rw guarantees things
    looked_up all_guarantees things = rw guarantees things
