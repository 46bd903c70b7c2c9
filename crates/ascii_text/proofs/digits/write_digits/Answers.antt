use Rattle.std.proofs.Common.{◌+◌, ◌-◌, ◌%◌, length, arith}
use Rattle.std.proofs.lemmas.List.{length-set}
use Rattle.ascii_text.proofs.Decimals.{none_written, all_left, one_more_written, next_rest}
use Rattle.ascii_text.proofs.digits.write_digits.Goals as goal

pub loop-place-init : goal.loop-place-init
loop-place-init c = record {
  within = omega arith;
  rest = all_left (length c.args.bytes.now) c.args.number;
  written = none_written c.args.bytes.now c.args.number;
}

pub loop-place-preserved : goal.loop-place-preserved
loop-place-preserved c =
    let size = length-set c.loop-place.bytes (c.loop-place.place - 1) (48 + c.loop-place.rest % 10) in
    record {
      within = omega arith;
      rest = rw size (next_rest _ c.loop-place.place c.args.number c.loop-place.rest (omega arith) c.loop-place.invariant.within c.loop-place.invariant.rest);
      written = rw size (one_more_written c.loop-place.bytes c.loop-place.place c.args.number c.loop-place.rest (omega arith) c.loop-place.invariant.within c.loop-place.invariant.rest c.loop-place.invariant.written);
    }
