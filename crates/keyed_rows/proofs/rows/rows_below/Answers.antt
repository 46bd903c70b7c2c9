use Rattle.std.proofs.Common.{rules}
use Rattle.std.specs.Prelude.{nat_lt}
use Rattle.std.proofs.lemmas.List.Sorted.{IsPartitionPoint-from_clause}
use Rattle.keyed_rows.proofs.Places.{parted, point_is}
use Rattle.keyed_rows.proofs.rows.rows_below.Goals as goal

pub returns-clause-value : goal.returns-clause-value
returns-clause-value g c =
    let key_of = g.R.Keyed.key_of in
    point_is (λ row. nat_lt (key_of row) c.args.key) c.args.rows.now c.partition_point.result c.partition_point.ensures.bound
    (IsPartitionPoint-from_clause (λ row. nat_lt (key_of row) c.args.key) _ _ c.partition_point.ensures.partitioned (parted key_of 0 c.args.key c.args.rows.now c.requires) (λ a r q k. search rules))
