-- Laws of what a crash leaves of a desk over a store's file, and of what a walk along its rows gives.
use Rattle.std.specs.Prelude.{◌≡◌, ◌⊎◌, ℕ, List, [], ◌∷◌, ◌++◌, Option, Some, None, Result, Ok, Err}
use Rattle.std.specs.List.{FoldsTo}
use Rattle.sqlite_trees.specs.declared.store.Store.{Ghosts}
use Rattle.sqlite_trees.specs.Tree.{Trees}
use Rattle.sqlite.specs.Held.{Held, state}
use Rattle.sqlite.specs.State.{IsLive}
use Rattle.td_model.specs.Content.{Content}
use Rattle.td_desk.specs.View.{AddsAtMost, DeskView, LeavesOnly}
use Rattle.td_desk.specs.declared.fault.Fault.{Fault}
use Rattle.td_table_model.specs.Tables.{Keyed}
use Rattle.td_store_rows.specs.StoreTables.{AreTreesOf, HoldsContent}
use Rattle.td_store.specs.Kept.{sql_view}
use Rattle.td_store.specs.Pulled.{IsNext, Walk, left_of}

-- A connection that was opened over trees that are a desk's holds that desk's content: their list of tables is a store's, and a
-- list is that of one schema.
abbrev pub DesksTreesOpen : {S : Type 0} → Ghosts S → Type 0
DesksTreesOpen {S} g =
    (conn : Held S) (c : Content) → IsLive (state g conn) → AreTreesOf c (state g conn).now.trees → HoldsContent c (state g conn)

-- Where a crash leaves this content alone, as it does after each call while no fault has shut the desk, whatever it leaves is a
-- desk's of this content.
abbrev pub AcknowledgedIsKept : {S : Type 0} → Ghosts S → Type 0
AcknowledgedIsKept {S} g =
    (desk : Held S) (c : Content) → LeavesOnly (sql_view g) desk c
    → (trees : Trees) → (state g desk).may_leave trees → AreTreesOf c trees

-- And so it is throughout a call that adds one content at most: whatever a crash leaves is a desk's of the content before it, or of
-- that one.
abbrev pub AcknowledgedIsKeptMeanwhile : {S : Type 0} → Ghosts S → Type 0
AcknowledgedIsKeptMeanwhile {S} g =
    (desk new : Held S) (c next : Content) → LeavesOnly (sql_view g) desk c → AddsAtMost (sql_view g) (λ x. x ≡ next) desk new
    → (trees : Trees) → (state g new).may_leave trees → AreTreesOf c trees ⊎ AreTreesOf next trees

-- what calls gave, one after another
abbrev pub given_by : {X : Type 0} → List (Result (Option X) Fault) → List X
given_by [] = []
given_by (Ok (Some x) ∷ results) = x ∷ given_by results
given_by (Ok None ∷ results) = given_by results
given_by (Err fault ∷ results) = given_by results

-- what they gave comes first in this, and before one that found no more they gave all of it
pub record GaveInOrder {X : Type 0} (all : List X) (results : List (Result (Option X) Fault)) : Type 0 where
  pub rest : List X
  pub first : given_by results ++ rest ≡ all
  pub whole : (before after : List (Result (Option X) Fault)) → results ≡ before ++ Ok None ∷ after → given_by before ≡ all

-- Calls of `next`, of a walk that is to give all that is listed, give it in its order, as far as they are made: one after another, on a
-- live desk whose disk is clean to the end. The desk, as far as it is live then, has the content that it had.
abbrev pub WalksGiveWhatIsListed : {D X : Type 0} → DeskView D → (Content → List (Keyed X)) → (Content → List (ℕ × X)) → Type 0
WalksGiveWhatIsListed {D} {X} view all listed =
    (old new : Walk D) (results : List (Result (Option (ℕ × X)) Fault)) → left_of view all old ≡ listed (view.content old.desk)
    → FoldsTo (IsNext view all) old results new → view.is_clean new.desk → view.is_live old.desk
    → GaveInOrder (listed (view.content old.desk)) results × (view.is_live new.desk → view.content new.desk ≡ view.content old.desk)
