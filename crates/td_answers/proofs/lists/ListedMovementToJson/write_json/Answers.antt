use Rattle.std.proofs.Common.{sym, refl, ◌∙◌}
use Rattle.std.proofs.Output.{has_written_append, has_written_of_eq}
use Rattle.td_answers.proofs.PlainObjects.{listed_movement_joined, listed_movement_told}
use Rattle.td_answers.proofs.lists.ListedMovementToJson.write_json.Goals as goal

pub returns : goal.returns
returns g c = λ plain ok.
    let m = c.args.self.now in
    let told = listed_movement_told m c.as_bytes-lrn.ensures.form c.as_bytes-mrn.ensures.form in
    let begun = c.in_ok-write_str.ensures.writes plain refl in
    let lrn = c.in_ok-fmt.ensures.writes begun.plain refl in
    let between = c.in_ok-write_str-2.ensures.writes lrn.plain refl in
    let mrn = c.in_ok-fmt-2.ensures.writes between.plain refl in
    let behind = c.in_ok-write_str-3.ensures.writes mrn.plain refl in
    let state = c.in_ok-write_str-4.ensures.writes behind.plain refl in
    let last = c.write_str-5.ensures.writes state.plain ok in
    has_written_of_eq _ _ _ _ _ (rw (c.name.ensures) (listed_movement_joined m ∙ sym told))
    (has_written_append _ _ _ _ _ _ begun (has_written_append _ _ _ _ _ _ lrn (has_written_append _ _ _ _ _ _ between
    (has_written_append _ _ _ _ _ _ mrn (has_written_append _ _ _ _ _ _ behind (has_written_append _ _ _ _ _ _ state last))))))
