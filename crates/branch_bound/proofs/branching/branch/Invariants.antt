use Rattle.std.proofs.Common.{◌≡◌, ◌-◌}
use Rattle.fleet_model.specs.Kept.{kept_by}
use Rattle.branch_bound.specs.History.{IsSearch}
use Rattle.branch_bound.proofs.branching.branch.Given as goal

abbrev pub invariant-loop-rank : goal.invariant-loop-rank
invariant-loop-rank g l = record {
  search : IsSearch l.tables (kept_by l.first) l.search;
  nodes : l.search.nodes ≡ l.fn.nodes;
  pivots : l.search.pivots ≡ l.fn.pivots;
}

-- how many splits are left
abbrev pub decreases-loop-rank : goal.decreases-loop-rank
decreases-loop-rank g l = l.search.nodes - l.search.splits
