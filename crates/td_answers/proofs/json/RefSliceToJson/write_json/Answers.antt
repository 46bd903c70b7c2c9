use Rattle.std.proofs.Common.{get_or, refl, rules}
use Rattle.std.proofs.Output.{has_written_append, has_written_of_eq}
use Rattle.std.specs.Fmt.{HasWritten}
use Rattle.td_answers.proofs.Arrays.{array_text, behind_comma, one_more}
use Rattle.td_answers.proofs.json.RefSliceToJson.write_json.Goals as goal

pub loop-value-init : goal.loop-value-init
loop-value-init g c = λ plain. search rules

pub loop-value-preserved : goal.loop-value-preserved
loop-value-preserved g c = λ plain.
    let before = c.loop-value.invariant plain in
    let value = c.value-item.result in
    let comma = c.in_ok-write_str-2.ensures.writes before.plain refl in
    let here : HasWritten g.W.Write.write_str_gives c.loop-value.f (behind_comma g.T.ToJson.shown (get_or c.in-Some.others.now c.loop-value.value-index value)) c.write_json-in-loop-value.new.f =
    rw (← c.value-item.is) (has_written_append _ _ _ _ _ _ comma (c.in_ok-write_json-2.ensures comma.plain refl)) in
    has_written_of_eq _ _ _ _ _ (one_more g.T.ToJson.shown c.in-Some.others.now c.loop-value.value-index value c.loop-value-test.true) (has_written_append _ _ _ _ _ _ before here)

pub returns : goal.returns
returns g c = λ plain ok.
    let bracket = c.in_ok-write_str.ensures.writes plain refl in
    let first = has_written_append _ _ _ _ _ _ bracket (c.in_ok-write_json.ensures bracket.plain refl) in
    let others = c.loop-value.invariant first.plain in
    let last = c.write_str-3.ensures.writes others.plain ok in
    let same = array_text g.T.ToJson.shown c.args.self.now.now c.in-Some.first.now c.in-Some.others.now c.loop-value.value-index c.loop-value-test.false c.in-Some.ensures.cases.0 in
    has_written_of_eq _ _ _ _ _ same (has_written_append _ _ _ _ _ _ first (has_written_append _ _ _ _ _ _ others last))
