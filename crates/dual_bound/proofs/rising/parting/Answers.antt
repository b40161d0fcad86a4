use Rattle.std.proofs.Common.{rules, arith}
use Rattle.std.proofs.lemmas.List.Sorted.{IsPartitionPoint-from_clause}
use Rattle.dual_bound.specs.Rising.{is_by, no_step}
use Rattle.dual_bound.proofs.RisingSteps.{partitioned}
use Rattle.dual_bound.proofs.rising.parting.Goals as goal

pub returns : goal.returns
returns c =
    let point = IsPartitionPoint-from_clause (is_by c.args.fleet c.args.station c.args.minute) _ _ c.partition_point.ensures.partitioned
    (partitioned c.args.steps.now c.args.fleet c.args.station c.args.minute c.requires) (λ a r q k. search rules) in
    record {
      within = c.partition_point.ensures.bound;
      before = λ k below. point.0 k no_step (omega arith) below;
      after = λ k above below. point.1 k no_step above below;
    }
