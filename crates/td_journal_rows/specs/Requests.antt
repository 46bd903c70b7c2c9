-- The request that asks for a command, in one form: its method, its path, and its body, which is JSON with no space in it
-- and with each operation's members in one order.
use Rattle.std.specs.Prelude.{◌≡◌, ⊤, ℕ, List, [], ◌∷◌, ◌++◌, All, flat_map, codes, decimal, Some, Ok}
use Rattle.td_base.specs.Codes.{IsAccessCode, holder_text}
use Rattle.td_base.specs.Days.{day_read, day_text}
use Rattle.td_base.specs.References.{IsGrn}
use Rattle.td_movement.specs.States.{control_name, ground_name}
use Rattle.td_movement.specs.declared.line.Line.{Line}
use Rattle.td_commands.specs.Commands.{IsProper}
use Rattle.td_commands.specs.declared.command.Command.{Command}
use Rattle.td_commands.specs.declared.command.Command.TheVariants.{Register, OpenGuarantee, Amend, Revoke, Ie015, Ie014, AddCode, RemoveCode, Ie029, Ie007, Ie018, Ie045, Ie140, SeeHolder, SeeMovement, SeeMovements, SeeGuarantee, SeeGuarantees}
use Rattle.td_routes.specs.Bodies.{command_of}

abbrev pub request_method : Command → List ℕ
request_method (Register holder eori) = codes "PUT"
request_method (OpenGuarantee holder reference cover code) = codes "POST"
request_method (Amend grn reference cover) = codes "POST"
request_method (Revoke grn) = codes "POST"
request_method (Ie015 holder lrn departure destination lines) = codes "POST"
request_method (Ie014 holder mrn) = codes "POST"
request_method (AddCode holder grn code) = codes "POST"
request_method (RemoveCode holder grn code) = codes "POST"
request_method (Ie029 mrn limit) = codes "POST"
request_method (Ie007 mrn office) = codes "POST"
request_method (Ie018 mrn result) = codes "POST"
request_method (Ie045 mrn cause) = codes "POST"
request_method (Ie140 mrn) = codes "POST"
request_method (SeeHolder holder) = codes "GET"
request_method (SeeMovement holder mrn) = codes "GET"
request_method (SeeMovements holder) = codes "GET"
request_method (SeeGuarantee holder grn) = codes "GET"
request_method (SeeGuarantees holder) = codes "GET"

abbrev pub request_path : Command → List ℕ
request_path (Register holder eori) = codes "/office/holders/" ++ holder_text holder
request_path (OpenGuarantee holder reference cover code) =
    codes "/office/holders/" ++ (holder_text holder ++ codes "/guarantees")
request_path (Amend grn reference cover) = codes "/office/guarantees/" ++ (grn ++ codes "/amend")
request_path (Revoke grn) = codes "/office/guarantees/" ++ (grn ++ codes "/revoke")
request_path (Ie015 holder lrn departure destination lines) =
    codes "/holders/" ++ (holder_text holder ++ codes "/movements")
request_path (Ie014 holder mrn) =
    codes "/holders/" ++ (holder_text holder ++ (codes "/movements/" ++ (mrn ++ codes "/ie014")))
request_path (AddCode holder grn code) =
    codes "/holders/" ++ (holder_text holder ++ (codes "/guarantees/" ++ (grn ++ codes "/codes/add")))
request_path (RemoveCode holder grn code) =
    codes "/holders/" ++ (holder_text holder ++ (codes "/guarantees/" ++ (grn ++ codes "/codes/remove")))
request_path (Ie029 mrn limit) = codes "/office/movements/" ++ (mrn ++ codes "/ie029")
request_path (Ie007 mrn office) = codes "/office/movements/" ++ (mrn ++ codes "/ie007")
request_path (Ie018 mrn result) = codes "/office/movements/" ++ (mrn ++ codes "/ie018")
request_path (Ie045 mrn cause) = codes "/office/movements/" ++ (mrn ++ codes "/ie045")
request_path (Ie140 mrn) = codes "/office/movements/" ++ (mrn ++ codes "/ie140")
request_path (SeeHolder holder) = codes "/holders/" ++ holder_text holder
request_path (SeeMovement holder mrn) = codes "/holders/" ++ (holder_text holder ++ (codes "/movements/" ++ mrn))
request_path (SeeMovements holder) = codes "/holders/" ++ (holder_text holder ++ codes "/movements")
request_path (SeeGuarantee holder grn) = codes "/holders/" ++ (holder_text holder ++ (codes "/guarantees/" ++ grn))
request_path (SeeGuarantees holder) = codes "/holders/" ++ (holder_text holder ++ codes "/guarantees")

-- a line of a declaration, with its access code
abbrev pub line_text : Line × List ℕ → List ℕ
line_text line =
    codes "{\"cents\":" ++ (decimal line.0.cents
    ++ (codes ",\"code\":\"" ++ (line.1 ++ (codes "\",\"grn\":\"" ++ (line.0.grn ++ codes "\"}")))))

-- a line behind others
abbrev pub later_line : Line × List ℕ → List ℕ
later_line line = codes "," ++ line_text line

-- lines in their order
abbrev pub lines_text : List (Line × List ℕ) → List ℕ
lines_text [] = codes "[]"
lines_text (line ∷ lines) = codes "[" ++ (line_text line ++ (flat_map later_line lines ++ codes "]"))

-- the body of an opening
abbrev pub opening_text : ℕ → ℕ → List ℕ → List ℕ
opening_text reference cover code =
    codes "{\"reference\":" ++ (decimal reference
    ++ (codes ",\"cover\":" ++ (decimal cover ++ (codes ",\"code\":\"" ++ (code ++ codes "\"}")))))

-- the body of an amendment
abbrev pub amendment_text : ℕ → ℕ → List ℕ
amendment_text reference cover =
    codes "{\"reference\":" ++ (decimal reference ++ (codes ",\"cover\":" ++ (decimal cover ++ codes "}")))

-- the body of a declaration, by the text of its lines
abbrev pub declaration_text : List ℕ → List ℕ → List ℕ → List ℕ → List ℕ
declaration_text lrn departure destination lines =
    codes "{\"lrn\":\"" ++ (lrn ++ (codes "\",\"departure\":\"" ++ (departure
    ++ (codes "\",\"destination\":\"" ++ (destination
    ++ (codes "\",\"lines\":" ++ (lines ++ codes "}")))))))

-- the body: nothing, where the operation has no members
abbrev pub request_body : Command → List ℕ
request_body (Register holder eori) = codes "{\"eori\":\"" ++ (eori ++ codes "\"}")
request_body (OpenGuarantee holder reference cover code) = opening_text reference cover code
request_body (Amend grn reference cover) = amendment_text reference cover
request_body (Revoke grn) = []
request_body (Ie015 holder lrn departure destination lines) =
    declaration_text lrn departure destination (lines_text lines)
request_body (Ie014 holder mrn) = []
request_body (AddCode holder grn code) = codes "{\"code\":\"" ++ (code ++ codes "\"}")
request_body (RemoveCode holder grn code) = codes "{\"code\":\"" ++ (code ++ codes "\"}")
request_body (Ie029 mrn limit) = codes "{\"limit\":\"" ++ (day_text limit ++ codes "\"}")
request_body (Ie007 mrn office) = codes "{\"office\":\"" ++ (office ++ codes "\"}")
request_body (Ie018 mrn result) = codes "{\"result\":\"" ++ (control_name result ++ codes "\"}")
request_body (Ie045 mrn cause) = codes "{\"ground\":\"" ++ (ground_name cause ++ codes "\"}")
request_body (Ie140 mrn) = []
request_body (SeeHolder holder) = []
request_body (SeeMovement holder mrn) = []
request_body (SeeMovements holder) = []
request_body (SeeGuarantee holder grn) = []
request_body (SeeGuarantees holder) = []

-- the texts of a declaration's line have the forms of their types
pub record IsFormedLine (line : Line × List ℕ) : Type 0 where
  pub grn : IsGrn line.0.grn
  pub code : IsAccessCode line.1

-- so have those of each line of a command
abbrev pub HasFormedLines : Command → Type 0
HasFormedLines (Ie015 holder lrn departure destination lines) = All IsFormedLine lines
HasFormedLines other = ⊤

-- the parts of a command, its lines among them, are in the ranges of their types
abbrev pub IsTyped : Command → Type 0
IsTyped command = IsProper command × HasFormedLines command

-- the day that a release names is read of its text
abbrev pub IsLimitRead : Command → Type 0
IsLimitRead (Ie029 mrn limit) = day_read (day_text limit) ≡ Some limit
IsLimitRead other = ⊤

-- the request is read as just this command, by the desk's own reading of requests
abbrev pub ReadsBack : Command → Type 0
ReadsBack command =
    command_of (request_method command) (request_path command) (request_body command) ≡ Ok command
