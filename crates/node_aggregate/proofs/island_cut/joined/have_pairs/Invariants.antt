use Rattle.std.proofs.Common.{ℕ, ◌<◌}
use Rattle.fleet_model.specs.Schedule.{fleets_in}
use Rattle.node_aggregate.specs.island_cut.Spare.{NoneFlies}
use Rattle.node_aggregate.proofs.island_cut.joined.have_pairs.Given as goal

abbrev pub invariant-loop-leg : goal.invariant-loop-leg
invariant-loop-leg l = (k : ℕ) → k < l.leg → ¬ (NoneFlies l.tables k (fleets_in l.tables))
