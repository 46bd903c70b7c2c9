-- The second file, with the rows of all holders of the first, holds both contents in one.
use Rattle.std.proofs.Common.{Err, Ok, Result, ◌∙◌, false}
use Rattle.std.proofs.lemmas.Bool.{false≢true}
use Rattle.std.specs.Prelude.{IsErr, is_ok}
use Rattle.sqlite.specs.State.{State}
use Rattle.typed_sql.specs.Reading.{HasOnlyRead}
use Rattle.td_model.specs.Content.{Content}
use Rattle.td_table_model.specs.Tables.{Tables}
use Rattle.td_table_model.proofs.Following.{same_tables}
use Rattle.td_schema.specs.declared.layout.Layout.{Layout}
use Rattle.td_store_rows.specs.StoreReads.{OnlyReadNewest, ReadsNewest}
use Rattle.td_store_rows.specs.StoreTables.{HasTables, HoldsContent, tables_in}
use Rattle.td_store_rows.proofs.Holding.{holds_still}
use Rattle.td_store_rows.proofs.StoreReads.{newest_keeps}
use Rattle.td_store_rows.proofs.Turned.{plain_rows}
use Rattle.td_extract.specs.Copied.{Copies, of_holders, with_rows}
use Rattle.td_join.specs.Joined.{joined}
use Rattle.td_join.specs.Joining.{Joins, WereApart}
use Rattle.td_join.proofs.Beside.{beside}
use Rattle.td_join.proofs.Contents.{sound_contents_join}

-- a content that the file holds it still holds after calls that read
pub held_after : (c : Content) (a b : State) → OnlyReadNewest a b → HoldsContent c a → HoldsContent c b
held_after c a b read holds =
    let one : HasOnlyRead a b = read holds.trees.layout holds.trees.newest holds.schema in
    holds_still c a b one.now_is one.was_open holds

-- where an error is answered
pub reads_failed : {T E : Type 0} {a b : State} (r : Result T E) → IsErr r → ReadsNewest false a b → ReadsNewest (is_ok r) a b
reads_failed (Ok x) failed reads = absurd (false≢true failed)
reads_failed (Err e) failed reads = reads

pub holds_joined : (from seen old mid new : State) → OnlyReadNewest from seen → OnlyReadNewest old mid → Copies (of_holders 1 999999) seen mid new
    → WereApart from old → Joins from old new
holds_joined from seen old mid new read looked copies apart c d holds others country =
    let first : HoldsContent c seen = held_after c from seen read holds in
    let second : HoldsContent d mid = held_after d old mid looked others in
    let k : Layout = first.trees.layout in
    let l : Layout = second.trees.layout in
    let t : Tables = tables_in k seen.now.trees in
    let u : Tables = tables_in l mid.now.trees in
    let has : HasTables l (with_rows (of_holders 1 999999 t)) mid new = copies c first l second.trees.newest second.schema second.trees.typed in
    record {
      schema = has.schema;
      trees = record {
        layout = l;
        newest = second.trees.newest;
        listed = has.listed second.trees.listed;
        typed = has.typed;
        sound = sound_contents_join c d country first.trees.sound second.trees.sound;
        tables = same_tables (with_rows (of_holders 1 999999 t) u) (tables_in l new.now.trees) (joined c d)
            (beside c d country first.trees.sound (apart c d holds others) t u first.trees.tables (newest_keeps k first.trees.newest) (plain_rows k seen.now.trees)
            second.trees.tables) has.same;
        office = has.office ∙ second.trees.office;
      };
    }
