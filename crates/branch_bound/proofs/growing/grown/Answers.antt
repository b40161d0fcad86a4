use Rattle.branch_bound.proofs.Closing.{begins, closing_after, first_closed}
use Rattle.branch_bound.proofs.Folding.{linked, parent_before, parent_split}
use Rattle.branch_bound.proofs.growing.grown.Goals as goal

pub loop-last-init : goal.loop-last-init
loop-last-init c = record {
  linked = c.requires;
  gathered = λ t root pivots count h are singles. begins t root pivots _ count h _ are singles;
}

pub fold-requires-clause-parent : goal.fold-requires-clause-parent
fold-requires-clause-parent c = parent_before _ _ _ _ _ c.in-Some.ensures.items c.in-Some-origin.is c.loop-last.invariant.linked.each

pub fold-requires-clause-split : goal.fold-requires-clause-split
fold-requires-clause-split c = parent_split _ _ _ _ _ c.in-Some.ensures.items c.in-Some-origin.is c.loop-last.invariant.linked.each

pub loop-last-preserved : goal.loop-last-preserved
loop-last-preserved c = record {
  linked = linked _ _ _ _ _ c.in-Some.ensures.items c.in-Some-origin.is c.loop-last.invariant.linked.each _ _ c.in_ok-fold-in-Some-origin.ensures;
  gathered = λ t root pivots count h are singles. closing_after t root pivots _ count h _ _ _ c.in-Some.ensures.items (c.loop-last.invariant.gathered t root pivots count h are singles) _ c.in-Some-origin.is _ c.in_ok-fold-in-Some-origin.ensures;
}

pub returns-in-None : goal.returns-in-None
returns-in-None c = λ t root pivots count h are singles. first_closed t root pivots _ count h _ _ _ c.in-Some.ensures.items (c.loop-last.invariant.gathered t root pivots count h are singles) _ c.in-None.is c.tree_of.ensures
