use Rattle.branch_bound.proofs.ClosedTrees.{all_are_closed}
use Rattle.branch_bound.proofs.Comes.{gathers, linked, singles}
use Rattle.node_bounding.proofs.Allowed.{allowed_rows}
use Rattle.node_bounding.proofs.RemovedPairs.{allowed_after, allowed_all, kept_now, removals_within}
use Rattle.branch_bound.proofs.solving.searched.Goals as goal

pub remove-requires : goal.remove-requires
remove-requires g c = rw c.as_slice.ensures (removals_within _ _ _ c.in_ok-removals.ensures.refuted)

pub branch-alloc-requires : goal.branch-alloc-requires
branch-alloc-requires g c = allowed_rows _ _ _ c.remove.ensures (allowed_after _ _ c.as_slice.result.now (allowed_rows _ _ _ c.all-kept.ensures (allowed_all _)))

pub grown-requires : goal.grown-requires
grown-requires g c = linked _ _ _ _ _ c.in_ok-search.ensures

pub returns : goal.returns
returns g c =
    let t = c.args.tables.now in
    let search = c.in_ok-search.search in
    all_are_closed t c.args.nodes c.args.pivots _ search c.in_ok-search.ensures c.in_ok-removals.removals c.in_ok-removals.ensures.removals c.in_ok-removals.ensures.refuted
    (kept_now t _ _ c.in_ok-removals.removals c.as_slice.result.now c.all-kept.ensures c.as_slice.ensures c.remove.ensures) c.in_ok-rest.rest
    (c.in_ok-rest.ensures t _ c.args.pivots _ _ (gathers t c.args.nodes c.args.pivots _ search c.in_ok-search.ensures) (singles t c.args.nodes c.args.pivots _ search c.in_ok-search.ensures))
    c.in_ok-tree.tree c.in_ok-tree.ensures
