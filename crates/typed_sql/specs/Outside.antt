-- A connection outside a transaction: what a crash leaves of it, and what a call leaves that only looks at its database.
use Rattle.std.specs.Prelude.{◌≡◌, ◌↔◌, Bool, IsTrue}
use Rattle.sqlite_trees.specs.Tree.{Trees}
use Rattle.sqlite.specs.State.{State, HasCleanDisk, Survives}

-- While no fault has shut the connection, a crash leaves exactly the trees that it shows. (Where its disk isn't clean, it shows
-- as shut.)
abbrev pub CrashLeavesShown : State → Type 0
CrashLeavesShown s = IsTrue s.is_open → (trees : Trees) → s.may_leave trees ↔ (trees ≡ s.now.trees)

-- A call that only looks: where the connection is open after it, it was so before, and its database is as it was; where the call
-- ended well, it was open and is; and a crash leaves what it could leave before.
pub record Looks (well : Bool) (old new : State) : Type 0 where
  pub live : HasCleanDisk new → IsTrue new.is_open → IsTrue old.is_open
  pub shown : HasCleanDisk new → IsTrue well → IsTrue old.is_open × IsTrue new.is_open
  pub same : HasCleanDisk new → IsTrue new.is_open → new.now ≡ old.now
  pub crash : Survives old new (λ _. ⊥)
