use Rattle.std.proofs.Common.{take}
use Rattle.std.specs.Fmt.{HasWritten, IsPlainFormatter}
use Rattle.std.specs.Prelude.{flat_map}
use Rattle.td_answers.proofs.Arrays.{behind_comma}
use Rattle.td_answers.proofs.json.RefSliceToJson.write_json.Given as goal

-- behind the first, the elements before are written
abbrev pub invariant-loop-value : goal.invariant-loop-value
invariant-loop-value g l =
    IsPlainFormatter l.initial.f → HasWritten g.W.Write.write_str_gives l.initial.f (flat_map (behind_comma g.T.ToJson.shown) (take l.value-index l.others)) l.f
