use Rattle.std.proofs.Common.{ℕ, Option, vec_len}
use Rattle.fleet_model.specs.Kept.{Domains}
use Rattle.fleet_model.specs.declared.tables.Tables.{Tables}
use Rattle.node_bounding.specs.Subproblems.{cost_of_plan}
use Rattle.branch_bound.specs.Growing.{AreGathered, AreSingle, AreSplitsLinked}
use Rattle.branch_bound.specs.History.{Chronicle}
use Rattle.branch_bound.proofs.Closing.{AreClosing}
use Rattle.branch_bound.proofs.growing.grown.Given as goal

abbrev pub invariant-loop-last : goal.invariant-loop-last
invariant-loop-last l = record {
  linked : AreSplitsLinked l.rest.items;
  gathered : (t : Tables) (root : Domains) (pivots : Option ℕ) (count : ℕ) (c : Chronicle) → AreGathered t root pivots (cost_of_plan l.best) count c l.fn.made.items → AreSingle l.fn.made.items → AreClosing t root pivots (cost_of_plan l.best) count c l.rest.items;
}

abbrev pub decreases-loop-last : goal.decreases-loop-last
decreases-loop-last l = vec_len l.rest
