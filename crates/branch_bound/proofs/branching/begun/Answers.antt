use Rattle.std.proofs.Common.{refl}
use Rattle.branch_bound.proofs.Beginning.{first_search}
use Rattle.node_bounding.proofs.RemovedPairs.{zero_good}
use Rattle.branch_bound.proofs.branching.begun.Goals as goal

pub examine-requires-clause-above : goal.examine-requires-clause-above
examine-requires-clause-above g c = rw c.in_ok-above.ensures (zero_good _)

pub returns-clause-search : goal.returns-clause-search
returns-clause-search g c = first_search _ _ _ _ _ _ _ c.requires c.in_ok-above.ensures refl refl c.new.ensures.items c.new-2.ensures.empty c.in_ok-state.ensures.examined c.in_ok-put.ensures
