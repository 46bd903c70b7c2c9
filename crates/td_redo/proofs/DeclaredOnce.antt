-- An LRN that is known stays known.
use Rattle.std.proofs.Common.{◌≡◌, ℕ, Bool, true, false, List, [], ◌∷◌, ◌++◌, map, Option, Some, None, refl, ap}
use Rattle.std.specs.Prelude.{if◌then◌else◌}
use Rattle.std.specs.Option.{is_some, option_or}
use Rattle.std.specs.Str.{bytes_eq}
use Rattle.std.proofs.lemmas.List.Folds.{find-append}
use Rattle.td_base.specs.Days.{moment_of}
use Rattle.td_movement.specs.declared.line.Line.{Line}
use Rattle.td_movement.specs.declared.movement.Movement.{Movement}
use Rattle.td_commands.specs.declared.command.Command.TheVariants.{Ie015}
use Rattle.td_commands.specs.declared.command.Stamped.{Stamped}
use Rattle.td_model.specs.declared.change.Change.{Change}
use Rattle.td_model.specs.declared.change.Change.TheVariants as change
use Rattle.td_model.specs.declared.change.NewStatus.{NewStatus}
use Rattle.td_model.specs.Changes.{account_after, moved}
use Rattle.td_acts.specs.Deciding.{change_in, change_of}
use Rattle.td_model.proofs.Steps.{lrn_moved}
use Rattle.td_model.specs.declared.holder_row.HolderRow.{HolderRow}
use Rattle.td_guarantee.specs.declared.guarantee.Guarantee.{Guarantee}
use Rattle.td_model.specs.Account.{Account, movement_by_lrn}
use Rattle.td_model.specs.Machine.{is_accepted_at, is_accepted_in}
use Rattle.td_redo.specs.Redo.{account_done}
use Rattle.td_redo.specs.SentAgain.{DeclaredOnce, all_done}
use Rattle.td_redo.proofs.Twice.{and_not, known_declared, not_done}

abbrev IsKnown : List ℕ → List Movement → Type 0
IsKnown lrn ms = is_some (movement_by_lrn lrn ms) ≡ true

known_with : (lrn : List ℕ) (ms : List Movement) (m : Movement) → IsKnown lrn ms → IsKnown lrn (ms ++ m ∷ [])
known_with lrn ms m known = rw (find-append (λ (m : Movement). bytes_eq m.lrn lrn) ms (m ∷ [])) (some_or (movement_by_lrn lrn ms) _ known)
  where
    some_or : (o p : Option Movement) → is_some o ≡ true → is_some (option_or o p) ≡ true
    some_or None p some = cc
    some_or (Some x) p some = refl

known_moved : (lrn : List ℕ) (status : NewStatus) (ms : List Movement) → IsKnown lrn ms → IsKnown lrn (map (moved status) ms)
known_moved lrn status [] known = known
known_moved lrn status (m ∷ ms) known = by_test (bytes_eq m.lrn lrn) (bytes_eq (moved status m).lrn lrn) (ap (λ k. bytes_eq k lrn) (lrn_moved status m)) known (known_moved lrn status ms)
  where
    by_test : (b c : Bool) → c ≡ b → is_some (if◌then◌else◌ {A = Option Movement} b (Some m) (movement_by_lrn lrn ms)) ≡ true
        → (IsKnown lrn ms → IsKnown lrn (map (moved status) ms))
        → is_some (if◌then◌else◌ {A = Option Movement} c (Some (moved status m)) (movement_by_lrn lrn (map (moved status) ms))) ≡ true
    by_test b true same here later = refl
    by_test true false same here later = cc
    by_test false false same here later = later here

known_after : (lrn : List ℕ) (c : Change) (a : Account) → IsKnown lrn a.movements → IsKnown lrn (account_after c a).movements
known_after lrn change.Nothing a known = known
known_after lrn (change.Registered row) a known = known
known_after lrn (change.Opened row g) a known = known
known_after lrn (change.Declared row m) a known = known_with lrn a.movements m known
known_after lrn (change.Moved row status) a known = known_moved lrn status a.movements known
known_after lrn (change.TermsSet row terms) a known = known
known_after lrn (change.CodeAdded row grn code) a known = known
known_after lrn (change.CodeRemoved row grn code) a known = known

known_still : (lrn : List ℕ) (a : Account) (between : List Stamped) → IsKnown lrn a.movements → IsKnown lrn (all_done a between).movements
known_still lrn a [] known = known
known_still lrn a (s ∷ between) known = known_still lrn (account_done a s.at s.command) between (known_after lrn (change_in (moment_of s.at) a s.command) a known)

-- the LRN of a declaration that was accepted is known
known_then : (m : Option ℕ) (country : List ℕ) (o : Option HolderRow) (gs : List Guarantee) (ms : List Movement) (h : ℕ) (lrn departure destination : List ℕ) (lines : List (Line × List ℕ))
    → let a : Account = record { country = country; holder = o; guarantees = gs; movements = ms } in
    let command = Ie015 h lrn departure destination lines in
    is_accepted_in m a command ≡ true → IsKnown lrn (account_after (change_in m a command) a).movements
known_then None country o gs ms h lrn departure destination lines accepted = cc
known_then (Some t) country None gs ms h lrn departure destination lines accepted = cc
known_then (Some t) country (Some row) gs ms h lrn departure destination lines accepted = rw accepted (known_declared lrn ms _ refl)

-- and so it is not accepted again
unaccepted : (m : Option ℕ) (a : Account) (h : ℕ) (lrn departure destination : List ℕ) (lines : List (Line × List ℕ)) → IsKnown lrn a.movements
    → account_after (change_in m a (Ie015 h lrn departure destination lines)) a ≡ a
unaccepted None a h lrn departure destination lines known = refl
unaccepted (Some t) a h lrn departure destination lines known =
    let other : is_accepted_at a t (Ie015 h lrn departure destination lines) ≡ false = and_not _ _ known in
    not_done (is_accepted_at a t (Ie015 h lrn departure destination lines)) (change_of a t (Ie015 h lrn departure destination lines)) a other

pub declared_once : DeclaredOnce
declared_once a at later between h lrn departure destination lines accepted =
    unaccepted (moment_of later) (all_done (account_done a at (Ie015 h lrn departure destination lines)) between) h lrn departure destination lines
    (known_still lrn (account_done a at (Ie015 h lrn departure destination lines)) between
    (known_then (moment_of at) a.country a.holder a.guarantees a.movements h lrn departure destination lines accepted))
