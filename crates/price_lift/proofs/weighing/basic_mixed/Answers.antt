use Rattle.std.proofs.lemmas.Result.{err_from_is_err_and}
use Rattle.price_lift.proofs.weighing.basic_mixed.Goals as goal

pub returns-in_err-scale-clause-mixed : goal.returns-in_err-scale-clause-mixed
returns-in_err-scale-clause-mixed g c =
    let p = err_from_is_err_and c.from_residual.result c.from_residual.ensures.1 in
    rw (p.1, p.2) (rw (c.scale_limit.ensures, c.pair_count-pairs.ensures) at c.in_err-scale.ensures.scale)

pub returns-in_err-parts-clause-memory : goal.returns-in_err-parts-clause-memory
returns-in_err-parts-clause-memory g c =
    let p = err_from_is_err_and c.from_residual-in_err-parts.result c.from_residual-in_err-parts.ensures.1 in
    rw (p.1, p.2) (rw (c.scale_limit.ensures, c.pair_count-pairs.ensures) at c.in_ok-scale.ensures.scale.0)

pub returns-in_err-weights-clause-memory : goal.returns-in_err-weights-clause-memory
returns-in_err-weights-clause-memory g c =
    let p = err_from_is_err_and c.from_residual-in_err-weights.result c.from_residual-in_err-weights.ensures.1 in
    rw (p.1, p.2) (rw (c.scale_limit.ensures, c.pair_count-pairs.ensures) at c.in_ok-scale.ensures.scale.0)
