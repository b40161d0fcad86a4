use Rattle.std.proofs.Common.{◌≡◌, subst, None}
use Rattle.std.proofs.lemmas.Result.{err_from_is_err_and}
use Rattle.sums.specs.Places.{first_below}
use Rattle.fleet_model.specs.Kept.{kept_by}
use Rattle.row_store.specs.Table.{height_of}
use Rattle.simplex_frac.specs.dual_lift.TooLarge.{IsLiftError}
use Rattle.simplex_frac.proofs.dual_lift.Excesses.{first_fails, then_fails, wanted_behind}
use Rattle.price_lift.specs.LastTables.{point_excess}
use Rattle.price_lift.specs.TooLarge.{weights_excess}
use Rattle.price_lift.proofs.Lifts.{basis_is, columns_are, pairs_long, parts_are}
use Rattle.price_lift.proofs.LiftResults.{duals_fit}
use Rattle.price_lift.proofs.PaidEnds.{point_fails, point_of}
use Rattle.price_lift.proofs.lifting.lift_point.Goals as goal

pub returns-in_err-before-clause-lifted : goal.returns-in_err-before-clause-lifted
unfolding point_excess
returns-in_err-before-clause-lifted g c =
    let p = err_from_is_err_and c.from_residual.result c.from_residual.ensures.1 in
    rw (p.1, p.2) (first_fails _ _ c.in_err-before.field-0.0 c.in_err-before.ensures.prices)

pub basic_mixed-requires-clause-basis : goal.basic_mixed-requires-clause-basis
basic_mixed-requires-clause-basis g c = basis_is _ _ _ _ _ c.requires.ends.last

pub basic_mixed-requires-clause-columns : goal.basic_mixed-requires-clause-columns
basic_mixed-requires-clause-columns g c = columns_are _ _ _ _ _ c.requires.ends.last c.args.outline.now c.requires.outline

pub basic_mixed-requires-clause-parts : goal.basic_mixed-requires-clause-parts
basic_mixed-requires-clause-parts g c = parts_are _ _ _ _ _ c.requires.ends _ c.requires.outline.pairs

pub returns-in_err-mixed-clause-lifted : goal.returns-in_err-mixed-clause-lifted
unfolding point_excess
returns-in_err-mixed-clause-lifted g c =
    let p = err_from_is_err_and c.from_residual-in_err-mixed.result c.from_residual-in_err-mixed.ensures.1 in
    let table = g.R.RowStore.content c.args.table.now in
    let last = subst (λ n. IsLiftError (first_below (weights_excess table c.args.basis.now n) (height_of table)) c.in_err-mixed.field-0.0) (pairs_long c.args.tables.now (kept_by c.args.kept.now) _ c.requires.outline.pairs) c.in_err-mixed.ensures.mixed in
    rw (p.1, p.2) (then_fails _ _ c.in_err-mixed.field-0.0 c.in_ok-before.ensures.prices.0 (first_fails _ _ c.in_err-mixed.field-0.0 last))

pub paid_back-requires-clause-outline : goal.paid_back-requires-clause-outline
paid_back-requires-clause-outline g c = (_, c.requires.outline)

pub paid_back-requires-clause-within : goal.paid_back-requires-clause-within
paid_back-requires-clause-within g c = c.in_ok-before.ensures.prices.1.limits

pub returns-in_err-prices-clause-lifted : goal.returns-in_err-prices-clause-lifted
returns-in_err-prices-clause-lifted g c =
    let p = err_from_is_err_and c.from_residual-in_err-prices.result c.from_residual-in_err-prices.ensures.1 in
    let table = g.R.RowStore.content c.args.table.now in
    let weighed = subst (λ n. first_below (weights_excess table c.args.basis.now n) (height_of table) ≡ None) (pairs_long c.args.tables.now (kept_by c.args.kept.now) _ c.requires.outline.pairs) c.in_ok-mixed.ensures.mixed.0 in
    rw (p.1, p.2) (point_fails _ _ _ _ _ c.requires.ends c.args.outline.now c.requires.outline _ c.in_ok-before.ensures.prices.1 c.in_ok-before.ensures.prices.0 weighed c.in_err-prices.field-0.0 c.in_err-prices.ensures)

pub returns-clause-lifted : goal.returns-clause-lifted
returns-clause-lifted g c =
    let table = g.R.RowStore.content c.args.table.now in
    let weighed = subst (λ n. first_below (weights_excess table c.args.basis.now n) (height_of table) ≡ None) (pairs_long c.args.tables.now (kept_by c.args.kept.now) _ c.requires.outline.pairs) c.in_ok-mixed.ensures.mixed.0 in
    point_of _ _ _ _ _ c.requires.ends c.args.outline.now c.requires.outline _ c.in_ok-before.ensures.prices.1 c.in_ok-before.ensures.prices.0 weighed _ c.in_ok-prices.ensures _ c.in_ok-mixed.ensures.mixed.1

-- ---- where memory is wanting
pub returns-in_err-before-clause-memory : goal.returns-in_err-before-clause-memory
returns-in_err-before-clause-memory g c =
    let p = err_from_is_err_and c.from_residual.result c.from_residual.ensures.1 in
    rw (p.1, p.2) c.in_err-before.ensures.memory

pub returns-in_err-mixed-clause-memory : goal.returns-in_err-mixed-clause-memory
returns-in_err-mixed-clause-memory g c =
    let p = err_from_is_err_and c.from_residual-in_err-mixed.result c.from_residual-in_err-mixed.ensures.1 in
    rw (p.1, p.2) (wanted_behind _ c.in_err-mixed.field-0.0 (duals_fit c.args.tables.now (g.R.RowStore.content c.args.table.now) c.args.reading.now c.in_ok-before.ensures.prices.0))

pub returns-in_err-prices-clause-memory : goal.returns-in_err-prices-clause-memory
returns-in_err-prices-clause-memory g c =
    let p = err_from_is_err_and c.from_residual-in_err-prices.result c.from_residual-in_err-prices.ensures.1 in
    rw (p.1, p.2) (wanted_behind _ c.in_err-prices.field-0.0 (duals_fit c.args.tables.now (g.R.RowStore.content c.args.table.now) c.args.reading.now c.in_ok-before.ensures.prices.0))
