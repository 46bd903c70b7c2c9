-- Texts that the program prints, how it ends behind them, and what it says of words that ask for no job.
use Rattle.std.specs.Prelude.{◌≡◌, ◌⊎◌, ℕ, List, string_bytes, Option, None, Some}
use Rattle.std.specs.Io.KnownBytes.{Appends}
use Rattle.counted_io.specs.Counted.{known_bytes}
use Rattle.counted_io.specs.Chains.{IsCutShort}
use Rattle.td_desk.specs.declared.fault.Fault.{Fault}
use Rattle.td_words.specs.declared.words.NoJob.{NoJob}
use Rattle.td_words.specs.declared.words.NoJob.TheVariants.{Help, Wrong, NoMemory}
use Rattle.td_cli.specs.Exits.{IsEnded, IsWrittenOut, of_stop}
use Rattle.td_cli.specs.World.{Lent, World}
use Rattle.td_cli.specs.declared.exits.Cause.{Cause}
use Rattle.td_cli.specs.declared.exits.Cause.TheVariants.{Of}
use Rattle.td_cli.specs.declared.exits.Word.TheVariants as word

module _ (lent : Lent) where
  -- how it ended was told, and nothing was printed
  abbrev pub IsToldAlone : Option Cause → World lent → World lent → ℕ → Type 0
  IsToldAlone cause old new status = (new.output ≡ old.output) × IsEnded lent.errors cause old.errors new.errors status

  -- A text was printed, and how it ended was told; or that the text couldn't be printed.
  abbrev pub IsPrinted : List ℕ → Option Cause → World lent → World lent → ℕ → Type 0
  IsPrinted text cause old new status =
      (Appends (known_bytes lent.output old.output) (known_bytes lent.output new.output) text × IsEnded lent.errors cause old.errors new.errors status)
      ⊎ (IsCutShort lent.output old.output new.output text × IsEnded lent.errors (Some (Of word.Write)) old.errors new.errors status)

  -- A result file was printed, and how it ended was told. Where a fault stopped the rows it is printed, or as much of it as was taken, and
  -- the fault is told.
  abbrev pub IsResultTold : List ℕ → Option Fault → Option Cause → World lent → World lent → ℕ → Type 0
  IsResultTold text None cause old new status = IsPrinted text cause old new status
  IsResultTold text (Some why) cause old new status =
      IsWrittenOut lent.output old.output new.output text × IsEnded lent.errors (Some (of_stop why)) old.errors new.errors status

  -- Words that ask for no job were answered: by the help that was asked for, or by what is wrong with them.
  abbrev pub IsAnswered : NoJob → World lent → World lent → ℕ → Type 0
  IsAnswered (Help text) old new status = IsPrinted (string_bytes text) None old new status
  IsAnswered (Wrong text) old new status = (status ≡ 2) × (new.output ≡ old.output) × IsWrittenOut lent.errors old.errors new.errors (string_bytes text)
  IsAnswered NoMemory old new status = IsToldAlone (Some (Of word.NoMemory)) old new status
