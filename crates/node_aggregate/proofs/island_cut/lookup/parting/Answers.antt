use Rattle.std.proofs.Common.{rules, arith}
use Rattle.std.proofs.lemmas.List.Sorted.{IsPartitionPoint-from_clause}
use Rattle.node_aggregate.specs.island_cut.Islands.{idle_at}
use Rattle.node_aggregate.specs.island_cut.Lookup.{idle_before}
use Rattle.node_aggregate.proofs.island_cut.FirstIdles.{partitioned}
use Rattle.node_aggregate.proofs.island_cut.lookup.parting.Goals as goal

pub returns : goal.returns
returns c =
    let point = IsPartitionPoint-from_clause (λ e. idle_before e c.args.station c.args.minute) _ _ c.partition_point.ensures.partitioned
    (partitioned c.args.idles.now c.args.station c.args.minute c.requires) (λ a r q k. search rules) in
    record {
      within = c.partition_point.ensures.bound;
      before = λ k below. point.0 k (idle_at 0 0) (omega arith) below;
      after = λ k above below. point.1 k (idle_at 0 0) above below;
    }
