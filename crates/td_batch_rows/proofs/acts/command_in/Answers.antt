use Rattle.std.proofs.Common.{◌∙◌, ap, option_map, rules, tests}
use Rattle.td_commands.specs.declared.command.Command.TheVariants as command
use Rattle.td_batch_rows.proofs.OptionFacts.{option_mapped}
use Rattle.td_batch_rows.proofs.acts.command_in.Goals as goal

pub returns-in-Ie018 : goal.returns-in-Ie018
returns-in-Ie018 c =
    let act = command.Ie018 c.args.mrn in
    let made = option_mapped _ act (λ x y p. search (rules, tests)) c.control_in.result c.map-in-Ie018.result c.map-in-Ie018.ensures.cases in
    rw c.in-Ie018.is (made ∙ ap (option_map act) c.control_in.ensures)

pub returns-in-Ie045 : goal.returns-in-Ie045
returns-in-Ie045 c =
    let act = command.Ie045 c.args.mrn in
    let made = option_mapped _ act (λ x y p. search (rules, tests)) c.ground_in.result c.map-in-Ie045.result c.map-in-Ie045.ensures.cases in
    rw c.in-Ie045.is (made ∙ ap (option_map act) c.ground_in.ensures)
