-- What a join does to the second of two desks' files, and what a crash on the way leaves of it.
use Rattle.std.specs.Prelude.{◌≡◌, ℕ, Option, IsTrue}
use Rattle.sqlite_trees.specs.Tree.{Trees}
use Rattle.sqlite.specs.State.{State, HasCleanDisk}
use Rattle.td_model.specs.Content.{Content}
use Rattle.td_store_rows.specs.StoreTables.{AreTreesOf, HoldsContent}
use Rattle.td_join.specs.declared.fault.JoinFault.{JoinFault}
use Rattle.td_join.specs.declared.fault.JoinFault.TheVariants.{NoMemory, Stands, Store}
use Rattle.td_join.specs.Joined.{AreApart, HasFirstOfBoth, IsFirstOfBoth, joined}

-- Whatever contents of one country the two files held, the second holds both in one now.
abbrev pub Joins : State → State → State → Type 0
Joins from old new =
    (c d : Content) → HoldsContent c from → HoldsContent d old → c.country ≡ d.country → HoldsContent (joined c d) new

-- Whatever contents they held, no holder stood in both.
abbrev pub WereApart : State → State → Type 0
WereApart from old = (c d : Content) → HoldsContent c from → HoldsContent d old → AreApart c d

-- Whatever contents they held, this is the first holder who stood in both, if there was one.
abbrev pub IsFirstIn : State → State → Option ℕ → Type 0
IsFirstIn from old found = (c d : Content) → HoldsContent c from → HoldsContent d old → HasFirstOfBoth c d found

-- A holder who is told to stand in both did so, whatever contents they held, and is the first who did.
abbrev pub TellsWhoStood : State → State → JoinFault → Type 0
TellsWhoStood from old (Stands H) = (c d : Content) → HoldsContent c from → HoldsContent d old → IsFirstOfBoth c d H
TellsWhoStood from old Store = Unit {0}
TellsWhoStood from old NoMemory = Unit {0}

-- the fault tells of no holder
abbrev pub TellsOfNoHolder : JoinFault → Type 0
TellsOfNoHolder (Stands H) = ⊥
TellsOfNoHolder Store = Unit {0}
TellsOfNoHolder NoMemory = Unit {0}

-- The connection was open. And where the files held contents of one country, and the first one's disk was clean to the end, these
-- trees are a desk's of both contents in one.
abbrev pub MayLeaveJoined : State → State → State → Trees → Type 0
MayLeaveJoined from seen old trees =
    IsTrue old.is_open
    × (HasCleanDisk seen → (c d : Content) → HoldsContent c from → HoldsContent d old → c.country ≡ d.country → AreTreesOf (joined c d) trees)
