-- Requests that are read as no command are those of none.
use Rattle.std.proofs.Common.{◌≡◌, ◌≢◌, ℕ, List, codes, inl, inr, Ok, Err, Result, refl, ap, subst, ◌∙◌, arith}
use Rattle.http_header.specs.Token.{IsToken, is_token_byte}
use Rattle.http_header.proofs.TokenLemmas.{AllPass-from_test}
use Rattle.td_commands.specs.declared.command.Command.{Command}
use Rattle.td_fields.specs.Faults.{OrNoMemory}
use Rattle.td_fields.specs.declared.fault.WebFault.{WebFault}
use Rattle.td_fields.specs.declared.fault.WebFault.TheVariants.{NoMemory}
use Rattle.td_journal_rows.specs.Requests.{ReadsBack, request_method, request_path}
use Rattle.td_journal_rows.specs.declared.rows.JournalRow.{JournalRow}
use Rattle.td_journal_lines.specs.Lines.{HasRequestOf}
use Rattle.td_journal_rows.proofs.Methods.{by_method}
use Rattle.td_routes.specs.Bodies.{command_of}

-- what was read is no command
other_read : (r : Result Command WebFault) (why : WebFault) (c : Command) → OrNoMemory r (Ok c) → r ≡ Err why → why ≢ NoMemory → ⊥
other_read r why c (inl memory) is other = other (cc)
other_read r why c (inr read) is other = cc

pub not_read : (row : JournalRow) (method path body : List ℕ) (r : Result Command WebFault) (why : WebFault) → method ≡ row.method.items → path ≡ row.path.items → body ≡ row.body.items
    → OrNoMemory r (command_of method path body) → r ≡ Err why → why ≢ NoMemory → (c : Command) → HasRequestOf c row → ReadsBack c → ⊥
not_read row method path body r why is_method is_path is_body read failed other c has back =
    let one = ap (λ (m : List ℕ). command_of m path body) (is_method ∙ has.method) in
    let two = ap (λ (p : List ℕ). command_of (request_method c) p body) (is_path ∙ has.path) in
    let three = ap (λ (b : List ℕ). command_of (request_method c) (request_path c) b) (is_body ∙ has.body) in
    other_read r why c (subst (OrNoMemory r) (one ∙ (two ∙ (three ∙ back))) read) failed other

put : IsToken (codes "PUT")
unfolding is_token_byte
put = (omega arith, AllPass-from_test is_token_byte (codes "PUT") refl)

post : IsToken (codes "POST")
unfolding is_token_byte
post = (omega arith, AllPass-from_test is_token_byte (codes "POST") refl)

get : IsToken (codes "GET")
unfolding is_token_byte
get = (omega arith, AllPass-from_test is_token_byte (codes "GET") refl)

-- the method of a command's request is one
pub method_token : (c : Command) → IsToken (request_method c)
method_token c = by_method IsToken put post get c
