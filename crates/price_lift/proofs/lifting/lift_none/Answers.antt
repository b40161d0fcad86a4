use Rattle.std.proofs.lemmas.Result.{err_from_is_err_and}
use Rattle.simplex_frac.proofs.dual_lift.Excesses.{first_fails}
use Rattle.price_lift.specs.LastTables.{none_excess}
use Rattle.price_lift.proofs.LiftResults.{behind, duals_fit}
use Rattle.price_lift.proofs.PaidEnds.{refusal_paid}
use Rattle.price_lift.proofs.lifting.lift_none.Goals as goal

pub returns-in_err-before-clause-lifted : goal.returns-in_err-before-clause-lifted
unfolding none_excess
returns-in_err-before-clause-lifted g c =
    let p = err_from_is_err_and c.from_residual.result c.from_residual.ensures.1 in
    rw (p.1, p.2) (first_fails _ _ c.in_err-before.field-0.0 c.in_err-before.ensures.prices)

pub paid_back-requires-clause-outline : goal.paid_back-requires-clause-outline
paid_back-requires-clause-outline g c = (_, c.requires.outline)

pub paid_back-requires-clause-within : goal.paid_back-requires-clause-within
paid_back-requires-clause-within g c = c.in_ok-before.ensures.prices.1.limits

pub returns-clause-lifted : goal.returns-clause-lifted
returns-clause-lifted g c = refusal_paid _ _ _ _ _ c.requires.ends.1.last c.args.outline.now c.requires.outline _ c.in_ok-before.ensures.prices.1 c.in_ok-before.ensures.prices.0 c.paid_back.result c.paid_back.ensures c.requires.ends.1.no_costs

-- ---- where memory is wanting
pub returns-in_err-before-clause-memory : goal.returns-in_err-before-clause-memory
returns-in_err-before-clause-memory g c =
    let p = err_from_is_err_and c.from_residual.result c.from_residual.ensures.1 in
    rw (p.1, p.2) c.in_err-before.ensures.memory

pub returns-clause-memory : goal.returns-clause-memory
returns-clause-memory g c = behind _ c.paid_back.result (duals_fit c.args.tables.now (g.R.RowStore.content c.args.table.now) c.args.reading.now c.in_ok-before.ensures.prices.0)
