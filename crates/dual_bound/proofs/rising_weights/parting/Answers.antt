use Rattle.std.proofs.Common.{rules, arith}
use Rattle.std.proofs.lemmas.List.Sorted.{IsPartitionPoint-from_clause}
use Rattle.dual_bound.specs.Rising.{is_weight_by, no_weight}
use Rattle.dual_bound.proofs.RisingWeights.{partitioned}
use Rattle.dual_bound.proofs.rising_weights.parting.Goals as goal

pub returns : goal.returns
returns c =
    let point = IsPartitionPoint-from_clause (is_weight_by c.args.pair) _ _ c.partition_point.ensures.partitioned
    (partitioned c.args.weights.now c.args.pair c.requires) (λ a r q k. search rules) in
    record {
      within = c.partition_point.ensures.bound;
      before = λ k below. point.0 k no_weight (omega arith) below;
      after = λ k above below. point.1 k no_weight above below;
    }
