use Rattle.http_wire.proofs.Unique.{splits_unique, splits_front}
use Rattle.http_wire.proofs.Standings.{standing_no_wire, empty_no_wire, standings_apart}
use Rattle.http_wire.proofs.laws.one_reading.Goals as goal

pub returns : goal.returns
returns c = record {
  one = splits_unique;
  front = splits_front;
  ends = standing_no_wire;
  empty = empty_no_wire;
  apart = standings_apart;
}
