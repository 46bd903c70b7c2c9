-- The holders of a range, copied one after another.
use Rattle.std.proofs.Common.{◌+◌, ◌<◌, ◌≤◌, ℕ, true, Option, Some, None, refl, arith}
use Rattle.sqlite.specs.State.{State, HasCleanDisk}
use Rattle.td_model.specs.declared.holder_row.HolderRow.{HolderRow}
use Rattle.typed_sql.proofs.OnlyRead.{stays_on}
use Rattle.td_store_rows.specs.StoreReads.{OnlyReadNewest, ReadsNewest}
use Rattle.td_store_rows.proofs.StoreReads.{reads_on}
use Rattle.td_extract.specs.Copied.{Copies, of_holders, of_row}
use Rattle.td_extract.specs.Extracted.{IsNextOf}
use Rattle.td_extract.proofs.Copied.{HasCopied, copied_as, copied_before, copied_both, held_after}
use Rattle.td_extract.proofs.Picked.{all_holders, holder_more}

-- what is next in the file after calls that read was next in it
next_before : (number last : ℕ) (a b : State) (found : Option HolderRow) → OnlyReadNewest a b → IsNextOf number last b found → IsNextOf number last a found
next_before number last a b found read next c holds = next c (held_after c a b read holds)

pub next_copied : (first number last : ℕ) (row : HolderRow) → first ≤ number + 1 → number < row.holder → (a b m d o p r : State) → HasCopied (of_holders first number) a b o p
    → ReadsNewest true b m → (HasCleanDisk m → IsNextOf number last b (Some row)) → HasCopied (of_row row) m d p r → HasCopied (of_holders first row.holder) a d o r
next_copied first number last row begins above a b m d o p r before looked next one = record {
  reads = reads_on (reads_on before.reads looked) one.reads;
  within = stays_on before.within one.within;
  copies = λ clean clean_r.
      let clean_m : HasCleanDisk m = omega (arith, clean, one.reads.within.survives.clean) in
      let clean_b : HasCleanDisk b = omega (arith, clean_m, looked.within.survives.clean) in
      let clean_p : HasCleanDisk p = omega (arith, clean_r, one.within.survives.clean) in
      let read : OnlyReadNewest a b = before.reads.still clean_b refl in
      let read_m : OnlyReadNewest a m = (reads_on before.reads looked).still clean_m refl in
      copied_both (of_holders first number) (of_row row) (of_holders first row.holder) a
      (holder_more a first number last row begins above (next_before number last a b (Some row) read (next clean_m)))
      o p r (before.copies clean_b clean_p) (copied_before (of_row row) a m p r read_m (one.copies clean clean_r));
}

pub all_copied : (first number last : ℕ) → (last < number → number < first) → (a b m o p : State) → HasCopied (of_holders first number) a b o p
    → ReadsNewest true b m → (HasCleanDisk m → IsNextOf number last b None) → HasCleanDisk m → HasCleanDisk p → Copies (of_holders first last) a o p
all_copied first number last ends a b m o p before looked none clean clean_p =
    let clean_b : HasCleanDisk b = omega (arith, clean, looked.within.survives.clean) in
    copied_as (of_holders first number) (of_holders first last) a
    (all_holders a first number last ends (next_before number last a b None (before.reads.still clean_b refl) (none clean))) o p (before.copies clean_b clean_p)
