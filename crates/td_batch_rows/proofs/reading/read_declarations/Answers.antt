use Rattle.td_batch_rows.proofs.AreDeclarations.{are_if}
use Rattle.td_batch_rows.proofs.reading.read_declarations.Goals as goal

pub returns-clause-declarations : goal.returns-clause-declarations
returns-clause-declarations c = are_if c.args.bytes.now (λ rows. rows.items) c.read_file.result c.read_file.ensures.all
