use Rattle.std.proofs.Common.{◌≡◌, ◌∙◌, ap, sym, map, string_bytes, List, Some, refl}
use Rattle.clap.specs.Words.{Text, is_simple, subcommand_of, rows_of, found_of}
use Rattle.td_words.proofs.Asked.{asks_if, asks_none, fails_by, met_as, taken_by, told}
use Rattle.td_words.specs.Words.{AreTaken, program_app}
use Rattle.td_words.proofs.words.read_words.Goals as goal

pub returns-in-Some-clause-job : goal.returns-in-Some-clause-job
returns-in-Some-clause-job c =
    let words : List Text = map string_bytes c.args.words.now in
    let is = c.in_ok-program.ensures in
    let taken : AreTaken words = taken_by _ words is c.in-Ok.ensures.kinds in
    let met = (c.in-Ok.ensures.matches (ap is_simple is ∙ refl)).1 in
    let named = met_as c.in-Ok.matches _ _ c.in-Some.ensures.name c.in-Some.ensures.rows in
    let command : subcommand_of program_app words ≡ Some (c.in-Some.name.now, rows_of (found_of c.in-Some.matches.now)) =
    ap (λ a. subcommand_of a words) (sym is) ∙ sym met ∙ named in
    asks_if words _ _ taken command c.job_of.result c.job_of.ensures.job

pub returns-in-Some-clause-no_job : goal.returns-in-Some-clause-no_job
returns-in-Some-clause-no_job c =
    let words : List Text = map string_bytes c.args.words.now in
    let is = c.in_ok-program.ensures in
    let taken : AreTaken words = taken_by _ words is c.in-Ok.ensures.kinds in
    let met = (c.in-Ok.ensures.matches (ap is_simple is ∙ refl)).1 in
    let named = met_as c.in-Ok.matches _ _ c.in-Some.ensures.name c.in-Some.ensures.rows in
    let command : subcommand_of program_app words ≡ Some (c.in-Some.name.now, rows_of (found_of c.in-Some.matches.now)) =
    ap (λ a. subcommand_of a words) (sym is) ∙ sym met ∙ named in
    asks_none words _ _ taken command c.job_of.result c.job_of.ensures.none

pub returns-clause-no_job : goal.returns-clause-no_job
returns-clause-no_job c =
    let words : List Text = map string_bytes c.args.words.now in
    told words c.in-Err.error.kind (fails_by _ words c.in_ok-program.ensures c.in-Err.error c.in-Err.ensures.kinds)
    c.in_ok-no_job-in-Err.field-0 c.in_ok-no_job-in-Err.ensures
