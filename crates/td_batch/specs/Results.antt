-- Rows of result files.
use Rattle.std.specs.Prelude.{ℕ, List, [], ◌∷◌, ◌++◌, codes}
use Rattle.td_base.specs.Codes.{holder_text}
use Rattle.td_movement.specs.States.{state_name}
use Rattle.td_movement.specs.declared.state.State.TheVariants.{Released, Enquired, Arrived, WrittenOff}
use Rattle.td_commands.specs.Commands.{refusal_name}
use Rattle.td_commands.specs.declared.command.Command.{Command}
use Rattle.td_commands.specs.declared.command.Command.TheVariants as command
use Rattle.td_commands.specs.declared.said.Answer.{Answer}
use Rattle.td_commands.specs.declared.said.Answer.TheVariants as answer
use Rattle.td_commands.specs.declared.said.Said.{Said}
use Rattle.td_commands.specs.declared.said.Said.TheVariants.{Answered, Refused}

-- the name of the state that an act reached; no other answer is given to an act
abbrev pub state_reached : Answer → List ℕ
state_reached (answer.Ie029 limit mrn) = state_name Released
state_reached (answer.Ie006 late mrn) = state_name Arrived
state_reached (answer.Ie018 mrn state) = state_name state
state_reached (answer.Ie045 mrn) = state_name WrittenOff
state_reached (answer.Ie140 mrn) = state_name Enquired
state_reached other = []

-- that, or the name of the refusal
abbrev pub outcome_text : Said → List ℕ
outcome_text (Answered a) = state_reached a
outcome_text (Refused r) = refusal_name r

-- `MESSAGE,MRN,OUTCOME`
abbrev pub act_line : List ℕ → List ℕ → Said → List ℕ
act_line message mrn said = message ++ (codes "," ++ (mrn ++ (codes "," ++ (outcome_text said ++ codes "\n"))))

-- the result row of an act; no other command stands in a file of acts
abbrev pub act_result : Command → Said → List ℕ
act_result (command.Ie029 mrn limit) said = act_line (codes "IE029") mrn said
act_result (command.Ie007 mrn office) said = act_line (codes "IE007") mrn said
act_result (command.Ie018 mrn result) said = act_line (codes "IE018") mrn said
act_result (command.Ie045 mrn g) said = act_line (codes "IE045") mrn said
act_result (command.Ie140 mrn) said = act_line (codes "IE140") mrn said
act_result other said = []

-- The result row of a declaration: `HOLDER,LRN,IE028,MRN`, or `HOLDER,LRN,REFUSAL,` with no MRN. No other command stands in
-- a file of declarations, and no other answer is given to one.
abbrev pub declaration_result : Command → Said → List ℕ
declaration_result (command.Ie015 holder lrn departure destination lines) (Answered (answer.Ie028 of mrn)) =
    holder_text holder ++ (codes "," ++ (lrn ++ (codes ",IE028," ++ (mrn ++ codes "\n"))))
declaration_result (command.Ie015 holder lrn departure destination lines) (Refused r) =
    holder_text holder ++ (codes "," ++ (lrn ++ (codes "," ++ (refusal_name r ++ codes ",\n"))))
declaration_result other said = []

-- the result rows of these rows, to which this was said
unfoldable pub result_rows : (Command → Said → List ℕ) → List Command → List Said → List ℕ
result_rows line [] said = []
result_rows line (row ∷ more) [] = []
result_rows line (row ∷ more) (s ∷ said) = line row s ++ result_rows line more said

-- the headers of the two result files
abbrev pub declarations_header : List ℕ
declarations_header = codes "holder,lrn,outcome,mrn\n"

abbrev pub acts_header : List ℕ
acts_header = codes "message,mrn,outcome\n"
