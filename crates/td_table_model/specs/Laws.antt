-- The laws of the tables.
use Rattle.std.specs.Prelude.{◌≡◌, ◌↔◌, ℕ, List, map, IsSome}
use Rattle.std.specs.List.{AllByRecursion, sum_by}
use Rattle.std.specs.List.Sorted.{IsPermutation}
use Rattle.td_guarantee.specs.Usage.{used_on}
use Rattle.td_movement.specs.declared.movement.Movement.{Movement}
use Rattle.td_model.specs.declared.change.Change.{Change}
use Rattle.td_model.specs.Content.{Content, account_in, content_after, IsSound}
use Rattle.td_model.specs.Account.{guarantee_by_grn}
use Rattle.td_table_model.specs.Tables.{Keyed, Kept, LineCells, Tables, AreTablesOf, KeepAmounts, guarantee_no, version_with_amounts, without_amount}
use Rattle.td_table_model.specs.Gathering.{content_of, with_lines}
use Rattle.td_table_model.specs.Looking.{account_by, AreFoundIn, counting_rows, lines_in_use, cents_of, TellKeys, MayBeAskedByKey}
use Rattle.td_table_model.specs.Changes.{tables_after, HaveSameRows, CanBeWritten, FollowsMoves}
use Rattle.td_table_model.specs.Rules.{KeepRules, IsInUse}

-- tables that have just the rows of sound content have that content
abbrev pub ContentIsOfTables : Type 0
ContentIsOfTables = (t : Tables) (c : Content) → IsSound c → AreTablesOf t c → content_of t ≡ c

-- The statements of a change turn tables of a content into tables of the content after the change, and the new
-- tables have that content. Where amounts in use are kept, the change has to follow the table of moves.
abbrev pub ChangesAreWritten : Type 0
ChangesAreWritten =
    (change : Change) (old new : Tables) (c : Content) → IsSound c → IsSound (content_after change c)
    → CanBeWritten c change → (KeepAmounts old → FollowsMoves c change)
    → AreTablesOf old c → HaveSameRows (tables_after change old) new
    → AreTablesOf new (content_after change c) × (content_of new ≡ content_after change c)

-- tables that keep the rules are tables of the content that they hold
abbrev pub RuledTablesAreOfContent : Type 0
RuledTablesAreOfContent = (t : Tables) → KeepRules t → AreTablesOf t (content_of t)

-- and this content is sound
abbrev pub RuledContentIsSound : Type 0
RuledContentIsSound = (t : Tables) → KeepRules t → IsSound (content_of t)

-- tables keep the rules exactly where they are the tables of some sound content
abbrev pub RulesMeanSoundContent : Type 0
RulesMeanSoundContent = (t : Tables) → KeepRules t ↔ ((c : Content) × IsSound c × AreTablesOf t c)

-- what tables of sound content have of a holder's number is what the content has of it
abbrev pub AccountsAreInTables : Type 0
AccountsAreInTables =
    (t : Tables) (c : Content) → IsSound c → AreTablesOf t c → (H : ℕ) → account_in H c ≡ account_by H t

-- and a guarantee or a movement is found by its reference as its row is in the table
abbrev pub RowsAreFoundInTables : Type 0
RowsAreFoundInTables =
    (t : Tables) (c : Content) → IsSound c → AreTablesOf t c → (H : ℕ) → AreFoundIn t H (account_in H c)

-- the amount in use on any guarantee of a holder is that of the movements that count alone, in any order
abbrev pub CountingRowsAreUse : Type 0
CountingRowsAreUse =
    (t : Tables) (c : Content) → IsSound c → AreTablesOf t c → (H : ℕ) (rows : List (Keyed Movement))
    → IsPermutation (counting_rows H t) rows
    → (grn : List ℕ) → used_on grn (map (with_lines t) rows) ≡ used_on grn (account_in H c).movements

-- The amount in use on a guarantee of the holder's is what the lines on it add up to, of those movements that
-- count: a line names the guarantee by its serial.
abbrev pub LinesInUseAreUse : Type 0
LinesInUseAreUse =
    (t : Tables) (c : Content) → IsSound c → AreTablesOf t c → (H : ℕ) (grn : List ℕ)
    → IsSome (guarantee_by_grn grn (account_in H c).guarantees) → (rows : List (Keyed LineCells))
    → IsPermutation (lines_in_use H (guarantee_no t.country grn) t) rows
    → sum_by cents_of rows ≡ used_on grn (account_in H c).movements

-- in tables of sound content a row may be asked for by its key and its reference as by its reference alone
abbrev pub ReferencesTellKeys : Type 0
ReferencesTellKeys =
    (t : Tables) (c : Content) → IsSound c → AreTablesOf t c → TellKeys t × MayBeAskedByKey t

-- the amount that a row keeps is what the content has in use on its guarantee
abbrev pub IsAmountOf : Content → Keyed Kept → Type 0
IsAmountOf c k = IsInUse (account_in k.holder c).movements k

-- an amount that is kept is what is in use
abbrev pub AmountsAreUse : Type 0
AmountsAreUse =
    (t : Tables) (c : Content) → IsSound c → AreTablesOf t c → KeepAmounts t → AllByRecursion (IsAmountOf c) t.kept

-- tables whose guarantees get the amounts in use are tables of the version that keeps them, of the same content
abbrev pub TablesGrow : Type 0
TablesGrow =
    (t : Tables) (c : Content) (kept : List (Keyed Kept)) → IsSound c → AreTablesOf t c
    → IsPermutation t.guarantees (map without_amount kept) → AllByRecursion (IsAmountOf c) kept
    → AreTablesOf (record t { version = version_with_amounts; kept = kept }) c
