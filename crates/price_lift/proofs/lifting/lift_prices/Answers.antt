use Rattle.std.proofs.Common.{◌≡◌, ◌∙◌, ap, subst, None, arith}
use Rattle.std.proofs.lemmas.Result.{err_from_is_err_and}
use Rattle.frac_row.specs.Row.{width_of}
use Rattle.fleet_model.specs.Schedule.{legs_in}
use Rattle.simplex_frac.specs.dual_lift.Readings.{duals_by, duals_excess}
use Rattle.simplex_frac.specs.dual_lift.TooLarge.{IsLiftError, IsWantedBehind}
use Rattle.simplex_frac.proofs.dual_lift.Excesses.{first_fails}
use Rattle.price_lift.specs.LastTables.{prices_excess_by}
use Rattle.price_lift.proofs.LiftResults.{behind}
use Rattle.price_lift.proofs.Lifts.{columns_are, lifted_prices, priced_wide, reads}
use Rattle.price_lift.proofs.lifting.lift_prices.Goals as goal

pub duals-requires-clause-columns : goal.duals-requires-clause-columns
duals-requires-clause-columns g c = omega (arith, c.column_count-columns.ensures.value, columns_are _ _ _ _ _ c.requires.ends.1 c.args.outline.now c.requires.outline)

pub duals-requires-clause-reading : goal.duals-requires-clause-reading
duals-requires-clause-reading g c = reads _ _ _ _ _ c.requires.ends.1

pub returns-in_err-duals-clause-prices : goal.returns-in_err-duals-clause-prices
unfolding prices_excess_by
returns-in_err-duals-clause-prices g c =
    let first : c.first_priced_line.result ≡ legs_in c.args.tables.now = c.first_priced_line.ensures ∙ c.requires.outline.over.legs in
    let p = err_from_is_err_and c.from_residual.result c.from_residual.ensures.1 in
    rw (p.1, p.2) (first_fails _ _ c.in_err-duals.field-0.0 (subst (λ n. IsLiftError (duals_excess (g.R.RowStore.content c.args.table.now) c.args.reading.now n) c.in_err-duals.field-0.0) first c.in_err-duals.ensures.duals))

pub prices_of-requires-clause-width : goal.prices_of-requires-clause-width
prices_of-requires-clause-width g c =
    let first : c.first_priced_line.result ≡ legs_in c.args.tables.now = c.first_priced_line.ensures ∙ c.requires.outline.over.legs in
    ap width_of (c.in_ok-duals.ensures.duals.1 ∙ ap (duals_by (g.R.RowStore.content c.args.table.now) c.args.reading.now) first) ∙ priced_wide _ _ _ _ _ c.requires.ends.1 c.args.outline.now c.requires.outline

pub returns-clause-prices : goal.returns-clause-prices
returns-clause-prices g c =
    let first : c.first_priced_line.result ≡ legs_in c.args.tables.now = c.first_priced_line.ensures ∙ c.requires.outline.over.legs in
    let table = g.R.RowStore.content c.args.table.now in
    lifted_prices _ _ _ _ _ c.requires.ends.1 _ c.requires.outline.network _ c.in_ok-duals.ensures.row (c.in_ok-duals.ensures.duals.1 ∙ ap (duals_by table c.args.reading.now) first)
    (subst (λ n. duals_excess table c.args.reading.now n ≡ None) first c.in_ok-duals.ensures.duals.0) c.prices_of.result c.prices_of.ensures.prices

-- ---- where memory is wanting
pub returns-in_err-duals-clause-memory : goal.returns-in_err-duals-clause-memory
returns-in_err-duals-clause-memory g c =
    let first : c.first_priced_line.result ≡ legs_in c.args.tables.now = c.first_priced_line.ensures ∙ c.requires.outline.over.legs in
    let p = err_from_is_err_and c.from_residual.result c.from_residual.ensures.1 in
    rw (p.1, p.2) (subst (λ n. IsWantedBehind (duals_excess (g.R.RowStore.content c.args.table.now) c.args.reading.now n) c.in_err-duals.field-0.0) first c.in_err-duals.ensures.memory)

pub returns-clause-memory : goal.returns-clause-memory
returns-clause-memory g c =
    let first : c.first_priced_line.result ≡ legs_in c.args.tables.now = c.first_priced_line.ensures ∙ c.requires.outline.over.legs in
    behind _ c.prices_of.result (subst (λ n. duals_excess (g.R.RowStore.content c.args.table.now) c.args.reading.now n ≡ None) first c.in_ok-duals.ensures.duals.0)
