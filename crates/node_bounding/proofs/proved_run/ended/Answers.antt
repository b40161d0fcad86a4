use Rattle.std.proofs.lemmas.Result.{err_from_is_err_and}
use Rattle.node_bounding.proofs.Lifts.{best_refused, ends_at_best, ends_at_no_point, no_point_refused, no_ray}
use Rattle.node_bounding.proofs.proved_run.ended.Goals as goal
use Rattle.price_lift.proofs.RunEnds as run_ends

pub lift_best_with-requires-clause-ends : goal.lift_best_with-requires-clause-ends
lift_best_with-requires-clause-ends g c = ends_at_best _ _ _ _ _ c.requires.ended.1 _ _ _ c.in-Best.is c.as_slice.ensures

pub lift_refusal_with-requires-clause-ends : goal.lift_refusal_with-requires-clause-ends
lift_refusal_with-requires-clause-ends g c = ends_at_no_point _ _ _ _ _ c.requires.ended.1 _ _ _ c.in-NoPoint.is c.as_slice-basis.ensures

pub unreachable-requires : goal.unreachable-requires
unreachable-requires g c = no_ray _ _ _ _ _ c.requires.ended.1 _ run_ends.no_ray c.in-Ray.is

pub returns-in_err-best-in-Best-clause-relaxed : goal.returns-in_err-best-in-Best-clause-relaxed
returns-in_err-best-in-Best-clause-relaxed g c = λ pivots has.
    let p = err_from_is_err_and c.from_residual.result c.from_residual.ensures.1 in
    rw (p.1, p.2) (best_refused _ _ _ _ _ has _ _ _ c.in_err-best-in-Best.field-0.0 c.in-Best.is c.as_slice.ensures c.in_err-best-in-Best.ensures.too_large)

pub returns-in_err-prices-in-NoPoint-clause-relaxed : goal.returns-in_err-prices-in-NoPoint-clause-relaxed
returns-in_err-prices-in-NoPoint-clause-relaxed g c = λ pivots has.
    let p = err_from_is_err_and c.from_residual-in_err-prices-in-NoPoint.result c.from_residual-in_err-prices-in-NoPoint.ensures.1 in
    rw (p.1, p.2) (no_point_refused _ _ _ _ _ has _ _ c.in_err-prices-in-NoPoint.field-0.0 c.in-NoPoint.is c.in_err-prices-in-NoPoint.ensures.too_large)
