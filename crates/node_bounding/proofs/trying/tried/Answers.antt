use Rattle.std.proofs.lemmas.Result.{err_from_is_err_and}
use Rattle.node_bounding.proofs.Lifts.{excess_of, of_point, of_refusal}
use Rattle.node_bounding.proofs.trying.tried.Goals as goal

pub lift_end-requires-clause-ends : goal.lift_end-requires-clause-ends
lift_end-requires-clause-ends c = of_point _ _ _ _ c.requires.ends c.in-Point.is

pub lift_refusing_end-requires-clause-ends : goal.lift_refusing_end-requires-clause-ends
lift_refusing_end-requires-clause-ends c = of_refusal _ _ _ _ c.requires.ends c.in-Refusal.is

pub returns-in_err-best-in-Point-clause-too_large : goal.returns-in_err-best-in-Point-clause-too_large
returns-in_err-best-in-Point-clause-too_large c =
    let p = err_from_is_err_and c.from_residual.result c.from_residual.ensures.1 in
    rw (p.1, p.2) (excess_of _ _ _ _ c.in_err-best-in-Point.field-0.0 c.in-Point.is c.in_err-best-in-Point.ensures.too_large)

pub returns-in_err-prices-in-Refusal-clause-too_large : goal.returns-in_err-prices-in-Refusal-clause-too_large
returns-in_err-prices-in-Refusal-clause-too_large c =
    let p = err_from_is_err_and c.from_residual-in_err-prices-in-Refusal.result c.from_residual-in_err-prices-in-Refusal.ensures.1 in
    rw (p.1, p.2) (excess_of _ _ _ _ c.in_err-prices-in-Refusal.field-0.0 c.in-Refusal.is c.in_err-prices-in-Refusal.ensures.too_large)
