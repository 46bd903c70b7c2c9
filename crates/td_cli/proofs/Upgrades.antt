-- The next run over a file that was brought to the newest version.
use Rattle.std.proofs.Common.{◌≡◌, ◌∙◌, ℕ, List, Ok, ap, inl, inr, subst, sym}
use Rattle.sqlite_disk.specs.declared.Disk.{Ghosts}
use Rattle.sqlite.specs.Effect.{Database}
use Rattle.sqlite.specs.Files.{file_state}
use Rattle.td_model.specs.Content.{Content}
use Rattle.td_store.specs.Kept.{content_in}
use Rattle.td_store.proofs.Holding.{trees_hold}
use Rattle.td_store_rows.specs.StoreTables.{AreTreesOf}
use Rattle.td_migrate.specs.Upgraded.{HeldEarlier, TellsUpgrade}
use Rattle.td_files.specs.Found.{FileSeen, IsOpenedDesk}
use Rattle.td_cli.specs.Runs.{GoesOnFrom}
use Rattle.td_cli.specs.UpgradeLaws.{BeginsWithWhatWasHeld, HeldContent}

module _ {S : Type 0} {disk : Ghosts S} (country : List ℕ) (left opened : FileSeen disk) (goes : GoesOnFrom country left opened) where
  desk : IsOpenedDesk goes.image country opened
  desk = goes.begins goes.clean

  same_trees : (file_state opened).now.trees ≡ (file_state left).now.trees
  same_trees = desk.found.holds (file_state left).now.trees goes.holds

  begins : (db : Database) (version : ℕ) → TellsUpgrade db (file_state left) (Ok version) → HeldContent db (content_in (file_state opened).now.trees)
  begins db version (newest, inl (as_was, tables, says)) =
      inr (subst (AreTreesOf (content_in (file_state opened).now.trees)) (same_trees ∙ ap (λ (d : Database). d.trees) as_was) desk.holds.trees)
  begins db version (newest, inr upgraded) =
      let own = ap content_in same_trees ∙ trees_hold upgraded.content (file_state left).now.trees upgraded.holds.trees in
      inl (upgraded.layout, subst (λ (c : Content). HeldEarlier upgraded.layout c db) (sym own) upgraded.held)

pub begins_with_what_was_held : {S : Type 0} (disk : Ghosts S) → BeginsWithWhatWasHeld disk
begins_with_what_was_held disk image country version left opened clean upgrade goes =
    begins country left opened goes upgrade.db version upgrade.told
