use Rattle.std.proofs.Common.{ltb, leb, rules}
use Rattle.std.proofs.lemmas.List.Sorted.{IsPartitionPoint-from_clause, IsPartitionedBy-leb, IsPartitionedBy-ltb}
use Rattle.binding_tables.proofs.Searching.{ranged}
use Rattle.binding_tables.proofs.table.range_of.Goals as goal

pub returns : goal.returns
returns c =
    ranged c.args.rows.now c.args.key c.partition_point-begin.result c.partition_point-end.result c.partition_point-begin.ensures.bound c.partition_point-end.ensures.bound
    (IsPartitionPoint-from_clause (λ r. ltb r.key c.args.key) _ _ c.partition_point-begin.ensures.partitioned (IsPartitionedBy-ltb (λ r. r.key) _ c.args.key c.requires) (λ a r q k. search rules))
    (IsPartitionPoint-from_clause (λ r. leb r.key c.args.key) _ _ c.partition_point-end.ensures.partitioned (IsPartitionedBy-leb (λ r. r.key) _ c.args.key c.requires) (λ a r q k. search rules))
