-- What holds of each of the three methods holds of that of each request.
use Rattle.std.specs.Prelude.{ℕ, List, codes}
use Rattle.td_commands.specs.declared.command.Command.{Command}
use Rattle.td_commands.specs.declared.command.Command.TheVariants.{Register, OpenGuarantee, Amend, Revoke, Ie015, Ie014, AddCode, RemoveCode, Ie029, Ie007, Ie018, Ie045, Ie140, SeeHolder, SeeMovement, SeeMovements, SeeGuarantee, SeeGuarantees}
use Rattle.td_journal_rows.specs.Requests.{request_method}

pub by_method : (P : List ℕ → Type 0) → P (codes "PUT") → P (codes "POST") → P (codes "GET") → (c : Command) → P (request_method c)
by_method P put post get (Register holder eori) = put
by_method P put post get (OpenGuarantee holder reference cover code) = post
by_method P put post get (Amend grn reference cover) = post
by_method P put post get (Revoke grn) = post
by_method P put post get (Ie015 holder lrn departure destination lines) = post
by_method P put post get (Ie014 holder mrn) = post
by_method P put post get (AddCode holder grn code) = post
by_method P put post get (RemoveCode holder grn code) = post
by_method P put post get (Ie029 mrn limit) = post
by_method P put post get (Ie007 mrn office) = post
by_method P put post get (Ie018 mrn result) = post
by_method P put post get (Ie045 mrn cause) = post
by_method P put post get (Ie140 mrn) = post
by_method P put post get (SeeHolder holder) = get
by_method P put post get (SeeMovement holder mrn) = get
by_method P put post get (SeeMovements holder) = get
by_method P put post get (SeeGuarantee holder grn) = get
by_method P put post get (SeeGuarantees holder) = get
