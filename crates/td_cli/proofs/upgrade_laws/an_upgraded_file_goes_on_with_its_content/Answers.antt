use Rattle.td_cli.proofs.Upgrades.{begins_with_what_was_held}
use Rattle.td_cli.proofs.upgrade_laws.an_upgraded_file_goes_on_with_its_content.Goals as goal

pub returns : goal.returns
returns g c = begins_with_what_was_held g.F.Disk
