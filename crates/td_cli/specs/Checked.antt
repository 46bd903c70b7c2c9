-- Records that were tested, and what was told of them.
use Rattle.std.specs.Prelude.{◌≡◌, ℕ, List, codes, None, Some, Result, Ok, Err}
use Rattle.td_files.specs.declared.desks.DeskFault.{DeskFault}
use Rattle.td_words.specs.declared.words.Records.{Records}
use Rattle.td_cli.specs.AtDesk.{AtDesk}
use Rattle.td_cli.specs.Exits.{of_file}
use Rattle.td_cli.specs.Told.{IsPrinted, IsToldAlone}
use Rattle.td_cli.specs.World.{OpensDeskFileAlone, Lent, World}

module _ (lent : Lent) where
  -- what was found was told: sound where a desk was opened, or why there was none
  abbrev pub IsCheckTold : Result (Unit {0}) DeskFault → World lent → World lent → ℕ → Type 0
  IsCheckTold (Ok opened) old new status = IsPrinted lent (codes "sound\n") None old new status
  IsCheckTold (Err why) old new status = IsToldAlone lent (Some (of_file why)) old new status

  -- Records were tested: a desk of the country was opened where they stand, and left as it was, or there was none; and that was told.
  abbrev pub IsChecked : List ℕ → Records → World lent → World lent → ℕ → Type 0
  IsChecked country records old new status =
      OpensDeskFileAlone lent old new
      × ((end : Result (Unit {0}) DeskFault)
      × AtDesk lent.drive country records (λ D view opened left end. left ≡ opened) (Unit {0}) old.file new.file end × IsCheckTold end old new status)
