-- What a call leaves that reads of a desk and tells an error of it as its fault, and what it found.
use Rattle.std.proofs.Common.{◌≡◌, ℕ, Bool, false, List, Err, Ok, Option, Result, ap, arith, refl, subst, sym}
use Rattle.std.specs.Option.{option_map}
use Rattle.std.specs.Prelude.{IfOk, IsTrue, OnOk, is_ok, true}
use Rattle.sqlite_trees.specs.declared.store.Store.{Ghosts}
use Rattle.sqlite.specs.Effect.{Database}
use Rattle.sqlite.specs.Held.{Held, state}
use Rattle.sqlite.specs.State.{State, HasCleanDisk}
use Rattle.sqlite.specs.declared.error.Error.{Error}
use Rattle.td_model.specs.Content.{Content, IsSound}
use Rattle.td_desk.specs.declared.fault.Fault.{Fault}
use Rattle.td_table_model.specs.Tables.{Keyed}
use Rattle.td_store_load.specs.Placed.{ComesNext, IsFirstBehind}
use Rattle.td_store_load.proofs.Listing.{comes_next}
use Rattle.td_store_load.proofs.Places.{IsBefore}
use Rattle.td_store_rows.specs.StoreTables.{HoldsContent}
use Rattle.sqlite_trees.specs.Tree.{IsAscending}
use Rattle.typed_sql.proofs.Outside.{looks_on}
use Rattle.typed_sql.specs.Outside.{CrashLeavesShown, Looks}
use Rattle.td_store.specs.Kept.{IsDeskOf, content_in, sql_view}
use Rattle.td_store.specs.Looked.{HasLooked}
use Rattle.td_store.proofs.Calls.{desk_then}
use Rattle.td_store.proofs.Holding.{holds_own}
use Rattle.td_store.proofs.Leaving.{adds_none, leaves_shown}

-- what was answered well is told by a connection that is as it was; what wasn't, after it was asked
pub looks_told : {S T : Type 0} (g : Ghosts S) (a : State) (mid new : Held S) (answer : Result T Error) (result : Result T Fault)
    → IfOk result (λ x. (answer ≡ Ok x) × (new ≡ mid)) → Looks (is_ok answer) a (state g mid) → Looks false (state g mid) (state g new)
    → Looks (is_ok result) a (state g new)
looks_told g a mid new answer (Ok x) well read told =
    subst (λ h. Looks true a (state g h)) (sym well.1) (subst (λ r. Looks (is_ok r) a (state g mid)) well.0 read)
looks_told g a mid new answer (Err e) well read told = looks_on read told

-- what is told to have been shown was shown
pub shown_well : {T A : Type 0} (result : Result T Fault) → (IsTrue (is_ok result) → A) → OnOk result A
shown_well (Ok x) shown = shown refl
shown_well (Err e) shown = tt

-- what is told is what was answered
pub told_of : {S T : Type 0} {P Q : T → Type 0} (mid new : Held S) (answer : Result T Error) (result : Result T Fault)
    → IfOk result (λ x. (answer ≡ Ok x) × (new ≡ mid)) → ((x : T) → P x → Q x) → IfOk answer P → IfOk result Q
told_of {P = P} mid new answer (Ok x) well so says = so x (subst (λ r. IfOk r P) well.0 says)
told_of mid new answer (Err e) well so says = tt

module _ {S : Type 0} (g : Ghosts S) (country : List ℕ) (old new : Held S) {w : Bool} (desk : IsDeskOf country (state g old))
    (looks : Looks w (state g old) (state g new)) where
  pub has_looked : CrashLeavesShown (state g new) → HasLooked (sql_view g) w old new
  has_looked settled = record {
    clean = λ clean. omega (arith, clean, looks.crash.clean);
    live = looks.live;
    shown = looks.shown;
    same = λ clean is. ap (λ (d : Database). content_in d.trees) (looks.same clean is);
    crash = λ clean. adds_none g old new looks.crash clean;
    settled = λ clean. leaves_shown g new settled (λ is. let it = desk_then country (state g old) (state g new) desk looks clean is in (it.0, it.1));
  }

  -- what was found behind a place of any content that the connection held was found of the desk's
  pub found_behind : {X Y : Type 0} (f : Content → List (Keyed X)) (in_order : (c : Content) → IsSound c → IsAscending IsBefore (f c)) (said : Y → Keyed X) (H n : ℕ) (mid : Held S) (answer : Result (Option Y) Error) (result : Result (Option Y) Fault)
      → IfOk result (λ x. (answer ≡ Ok x) × (new ≡ mid)) → IfOk answer (λ found. IsFirstBehind f H n (state g old) (option_map said found))
      → HasCleanDisk (state g new) → IsTrue (state g old).is_open
      → IfOk result (λ found. ComesNext H n (f (content_in (state g old).now.trees)) (option_map said found))
  found_behind {Y = Y} f in_order said H n mid answer result well found clean is =
      let own : Content = content_in (state g old).now.trees in
      let holds : HoldsContent own (state g old) = holds_own country (state g old) desk (omega (arith, clean, looks.crash.clean)) is in
      told_of mid new answer result well
      (λ x there. comes_next H n (f own) (option_map said x) (in_order own holds.trees.sound) (there own holds)) found
