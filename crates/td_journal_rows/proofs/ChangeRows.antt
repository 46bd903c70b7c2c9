-- The row of a change stands on one line.
use Rattle.std.proofs.Common.{◌≡◌, ℕ, ◌^◌, ◌<◌, ◌==◌, List, All, false, codes, refl, arith}
use Rattle.std.proofs.lemmas.Bool.{ne_eqb}
use Rattle.std.proofs.lemmas.List.Elements.{All-weaker}
use Rattle.td_commands.specs.declared.command.Command.{Command}
use Rattle.td_journal_rows.specs.Requests.{IsTyped, request_body, request_method, request_path}
use Rattle.td_journal_rows.specs.Rows.{HasNoLineFeed, IsRow, change_row}
use Rattle.td_journal_rows.proofs.Bodies.{body_shown}
use Rattle.td_journal_rows.proofs.Methods.{by_method}
use Rattle.td_journal_rows.proofs.Paths.{path_leads}
use Rattle.td_journal_rows.proofs.Plain.{IsShown, plain_text, shown_plain}

no_line : (text : List ℕ) → All IsShown text → HasNoLineFeed text
no_line text shown = All-weaker IsShown (λ c. (c == 10) ≡ false) (λ c h. ne_eqb c 10 (λ e. omega (arith, h.low, e))) text shown

put : All IsShown (codes "PUT")
put = shown_plain (codes "PUT") (plain_text (codes "PUT") refl)

post : All IsShown (codes "POST")
post = shown_plain (codes "POST") (plain_text (codes "POST") refl)

get : All IsShown (codes "GET")
get = shown_plain (codes "GET") (plain_text (codes "GET") refl)

method_shown : (c : Command) → All IsShown (request_method c)
method_shown c = by_method (All IsShown) put post get c

pub change_is_row : (number at : ℕ) (c : Command) (reply : List ℕ) → number < 10 ^ 18 → at < 10 ^ 18 → IsTyped c → HasNoLineFeed reply → IsRow (change_row number at c reply)
change_is_row number at c reply small small_at typed said = record {
  number = small;
  at = small_at;
  method = no_line (request_method c) (method_shown c);
  path = no_line (request_path c) (path_leads c typed.0).shown;
  body = no_line (request_body c) (body_shown c typed.0 typed.1);
  reply = said;
}
