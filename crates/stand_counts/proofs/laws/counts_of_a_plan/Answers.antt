use Rattle.stand_counts.proofs.PlanCounts.{counts_of_plan}
use Rattle.stand_counts.proofs.laws.counts_of_a_plan.Goals as goal

pub returns : goal.returns
returns c = counts_of_plan
