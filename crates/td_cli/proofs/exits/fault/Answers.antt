use Rattle.std.proofs.Common.{refl}
use Rattle.std.specs.Prelude.{string_bytes}
use Rattle.td_cli.proofs.Batches.{told_made}
use Rattle.td_cli.proofs.exits.fault.Goals as goal

pub returns-in-BadCsv : goal.returns-in-BadCsv
returns-in-BadCsv g c = rw c.in-BadCsv.is (refl, told_made g.E.Write.contents _ _ _ _ string_bytes c.bad_csv_line.result c.bad_csv_line.ensures c.tell_made.ensures)

pub returns-in-NeedsMigration : goal.returns-in-NeedsMigration
returns-in-NeedsMigration g c =
    rw c.in-NeedsMigration.is (refl, told_made g.E.Write.contents _ _ _ _ string_bytes c.needs_migration_line.result c.needs_migration_line.ensures c.tell_made-in-NeedsMigration.ensures)

pub returns-in-HolderExists : goal.returns-in-HolderExists
returns-in-HolderExists g c =
    rw c.in-HolderExists.is (refl, told_made g.E.Write.contents _ _ _ _ string_bytes c.holder_exists_line.result c.holder_exists_line.ensures c.tell_made-in-HolderExists.ensures)

pub returns-in-ForeignRow : goal.returns-in-ForeignRow
returns-in-ForeignRow g c =
    rw c.in-ForeignRow.is (refl, told_made g.E.Write.contents _ _ _ _ string_bytes c.foreign_row_line.result c.foreign_row_line.ensures c.tell_made-in-ForeignRow.ensures)

pub returns-in-BadRow : goal.returns-in-BadRow
returns-in-BadRow g c =
    rw c.in-BadRow.is (refl, told_made g.E.Write.contents _ _ _ _ string_bytes c.bad_row_line.result c.bad_row_line.ensures c.tell_made-in-BadRow.ensures)

pub returns-in-Differs : goal.returns-in-Differs
returns-in-Differs g c =
    rw c.in-Differs.is (refl, told_made g.E.Write.contents _ _ _ _ string_bytes c.differs_line.result c.differs_line.ensures c.tell_made-in-Differs.ensures)

pub returns-in-Of : goal.returns-in-Of
returns-in-Of g c = rw c.in-Of.is (refl, rw c.line.ensures at c.tell.ensures)
