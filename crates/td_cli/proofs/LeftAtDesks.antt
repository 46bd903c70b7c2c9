-- What jobs leave at a desk whose records stand somewhere.
use Rattle.std.proofs.Common.{◌≡◌, ℕ, List, Result, Ok, Err, ap}
use Rattle.std.specs.Prelude.{IsErrAnd}
use Rattle.sqlite_disk.specs.declared.Disk.{Ghosts}
use Rattle.td_desk.specs.View.{DeskView}
use Rattle.td_machine.specs.Drive.{KnownDrive}
use Rattle.td_files.specs.Found.{FileHeld}
use Rattle.td_files.specs.declared.desks.DeskFault.{DeskFault}
use Rattle.td_words.specs.declared.words.Records.{Records}
use Rattle.td_words.specs.declared.words.Records.TheVariants.{Memory, File, NewFile}
use Rattle.td_cli.specs.AtDesk.{AtDesk}

-- a fault that is handed on
pub err_is : {A E : Type 0} (answer : Result A E) (why : E) → IsErrAnd answer (λ told. told ≡ why) → answer ≡ Err why
err_is (Ok end) why is = absurd is
err_is (Err told) why is = ap Err is

module _ {V S End : Type 0} {disk : Ghosts S} (drive : KnownDrive V S) (country : List ℕ) (before file : FileHeld V disk) where
  -- what is done is said by itself where it is said beside something else, which holds without a desk, too
  pub left_alone : (did : (D : Type 0) → DeskView D → D → D → End → Type 0) (beside untouched : Type 0) (records : Records) (end : Result End DeskFault)
      → AtDesk drive country records (λ D view opened left end. beside × did D view opened left end) (beside × untouched) before file end
      → beside × AtDesk drive country records did untouched before file end
  left_alone did beside untouched Memory (Ok end) at = (at.0.3.0, ((at.0.0, at.0.1, at.0.2, at.0.3.1), at.1))
  left_alone did beside untouched (File path) (Ok end) at = (at.5.0, (at.0, at.1, at.2, at.3, at.4, at.5.1))
  left_alone did beside untouched (NewFile path) (Ok end) at = (at.5.0, (at.0, at.1, at.2, at.3, at.4, at.5.1))
  left_alone did beside untouched Memory (Err why) at = (at.0.0, (at.0.1, at.1, at.2))
  left_alone did beside untouched (File path) (Err why) at = (at.0.0, (at.0.1, at.1))
  left_alone did beside untouched (NewFile path) (Err why) at = (at.0.0, (at.0.1, at.1))

  -- what is done says something by itself
  pub left_as : (did said : (D : Type 0) → DeskView D → D → D → End → Type 0) (untouched other : Type 0) (records : Records) (end : Result End DeskFault)
      → ((D : Type 0) (view : DeskView D) (opened left : D) (end : End) → did D view opened left end → said D view opened left end) → (untouched → other)
      → AtDesk drive country records did untouched before file end → AtDesk drive country records said other before file end
  left_as did said untouched other Memory (Ok end) says also at = ((at.0.0, at.0.1, at.0.2, says _ _ _ _ _ at.0.3), at.1)
  left_as did said untouched other (File path) (Ok end) says also at = (at.0, at.1, at.2, at.3, at.4, says _ _ _ _ _ at.5)
  left_as did said untouched other (NewFile path) (Ok end) says also at = (at.0, at.1, at.2, at.3, at.4, says _ _ _ _ _ at.5)
  left_as did said untouched other Memory (Err why) says also at = (also at.0, at.1, at.2)
  left_as did said untouched other (File path) (Err why) says also at = (also at.0, at.1)
  left_as did said untouched other (NewFile path) (Err why) says also at = (also at.0, at.1)

  -- what is done says this beside something else, which holds without a desk, too
  pub left_parted : (did said : (D : Type 0) → DeskView D → D → D → End → Type 0) (beside untouched other : Type 0) (records : Records) (end : Result End DeskFault)
      → ((D : Type 0) (view : DeskView D) (opened left : D) (end : End) → did D view opened left end → beside × said D view opened left end) → (untouched → beside × other)
      → AtDesk drive country records did untouched before file end → beside × AtDesk drive country records said other before file end
  left_parted did said beside untouched other records end says also at =
      left_alone said beside other records end
      (left_as did (λ D view opened left end. beside × said D view opened left end) untouched (beside × other) records end says also at)
