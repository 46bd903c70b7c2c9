-- The request of a command is read as the command.
use Rattle.std.proofs.Common.{◌≡◌, ℕ, List, Ok, Result, Some, ap, ◌∙◌, rules}
use Rattle.td_base.specs.Days.{IsDay, day_read, day_text}
use Rattle.td_commands.specs.Commands.{IsProper}
use Rattle.td_commands.specs.declared.command.Command.{Command}
use Rattle.td_commands.specs.declared.command.Command.TheVariants.{Register, OpenGuarantee, Amend, Revoke, Ie015, Ie014, AddCode, RemoveCode, Ie029, Ie007, Ie018, Ie045, Ie140, SeeHolder, SeeMovement, SeeMovements, SeeGuarantee, SeeGuarantees}
use Rattle.td_fields.specs.declared.fault.WebFault.{WebFault}
use Rattle.td_routes.specs.Bodies.{command_of}
use Rattle.td_journal_rows.specs.Requests.{HasFormedLines, IsLimitRead, IsTyped, ReadsBack, request_body, request_method, request_path}
use Rattle.td_journal_rows.proofs.Bodies.{body_reads}
use Rattle.td_journal_rows.proofs.Paths.{path_leads}

pub reads_back : (c : Command) → IsProper c → HasFormedLines c → IsLimitRead c → ReadsBack c
reads_back c proper formed limit = (path_leads c proper).read (request_body c) ∙ body_reads c proper formed limit

-- each day is read of its text
abbrev pub DaysRead : Type 0
DaysRead = (n : ℕ) → IsDay n → day_read (day_text n) ≡ Some n

limit_read : DaysRead → (c : Command) → IsProper c → IsLimitRead c
limit_read days (Register holder eori) h = tt
limit_read days (OpenGuarantee holder reference cover code) h = tt
limit_read days (Amend grn reference cover) h = tt
limit_read days (Revoke grn) h = tt
limit_read days (Ie015 holder lrn departure destination lines) h = tt
limit_read days (Ie014 holder mrn) h = tt
limit_read days (AddCode holder grn code) h = tt
limit_read days (RemoveCode holder grn code) h = tt
limit_read days (Ie029 mrn limit) h = days limit h.1
limit_read days (Ie007 mrn office) h = tt
limit_read days (Ie018 mrn result) h = tt
limit_read days (Ie045 mrn cause) h = tt
limit_read days (Ie140 mrn) h = tt
limit_read days (SeeHolder holder) h = tt
limit_read days (SeeMovement holder mrn) h = tt
limit_read days (SeeMovements holder) h = tt
limit_read days (SeeGuarantee holder grn) h = tt
limit_read days (SeeGuarantees holder) h = tt

-- so the request of each command is read as that
pub each_reads_back : DaysRead → (c : Command) → IsTyped c → ReadsBack c
each_reads_back days c typed = reads_back c typed.0 typed.1 (limit_read days c typed.0)

-- requests that are read alike are of one command
same_command : (r : Result Command WebFault) (a b : Command) → r ≡ Ok a → r ≡ Ok b → a ≡ b
same_command r a b is_a is_b = search rules

-- and commands with one request are one
pub apart : DaysRead → (a b : Command) → IsTyped a → IsTyped b → request_method a ≡ request_method b → request_path a ≡ request_path b → request_body a ≡ request_body b → a ≡ b
apart days a b typed_a typed_b methods paths bodies =
    let method = ap (λ (method : List ℕ). command_of method (request_path a) (request_body a)) methods in
    let path = ap (λ (path : List ℕ). command_of (request_method b) path (request_body a)) paths in
    let body = ap (λ (body : List ℕ). command_of (request_method b) (request_path b) body) bodies in
    same_command (command_of (request_method a) (request_path a) (request_body a)) a b (each_reads_back days a typed_a) (method ∙ path ∙ body ∙ each_reads_back days b typed_b)
