use Rattle.std.proofs.Common.{◌≡◌, ◌∙◌, None, pos, ap, subst, length, arith}
use Rattle.std.proofs.lemmas.Result.{err_from_is_err_and}
use Rattle.frac_row.specs.Row.{IsRow, reduced}
use Rattle.fleet_model.specs.Kept.{kept_by}
use Rattle.fleet_model.specs.Schedule.{legs_in}
use Rattle.lp_rows.specs.Layout.{starts_in}
use Rattle.simplex_frac.specs.dual_lift.TooLarge.{IsLiftError, IsWantedBehind}
use Rattle.simplex_frac.proofs.dual_lift.Excesses.{first_fails}
use Rattle.price_lift.specs.EndLifts.{refusing_duals, refusing_excess, priced_values}
use Rattle.price_lift.specs.Steps.{prices_by}
use Rattle.price_lift.specs.TooLarge.{prices_excess}
use Rattle.price_lift.proofs.EndLifts.{priced_is_row, refusing_paid, refusing_priced, values_long}
use Rattle.price_lift.proofs.LiftResults.{behind}
use Rattle.price_lift.proofs.end_lifts.lifted_refusing.Goals as goal

pub end_prices-requires-clause-long : goal.end_prices-requires-clause-long
end_prices-requires-clause-long c =
    ap length c.as_slice.ensures ∙ values_long c.args.tables.now (kept_by c.args.kept.now) c.requires.ends.0 c.requires.ends.1 c.args.hint.now.multipliers c.requires.ends.2.multipliers (pos 1) c.args.outline.now c.requires.outline

pub returns-in_err-before-clause-lifted : goal.returns-in_err-before-clause-lifted
unfolding refusing_excess
returns-in_err-before-clause-lifted c =
    let p = err_from_is_err_and c.from_residual.result c.from_residual.ensures.1 in
    rw (p.1, p.2)
    (first_fails _ _ c.in_err-before.field-0.0 (subst (λ values. IsLiftError (prices_excess (legs_in c.args.tables.now) (priced_values c.args.tables.now values (pos 1))) c.in_err-before.field-0.0) c.as_slice.ensures c.in_err-before.ensures.prices))

pub paid_back-requires-clause-within : goal.paid_back-requires-clause-within
paid_back-requires-clause-within c =
    let row : IsRow (refusing_duals c.args.tables.now c.args.hint.now) = priced_is_row c.args.tables.now c.args.hint.now.multipliers (pos 1) c.requires.ends.2.multipliers.within (omega arith) c.requires.ends.2.values.some in
    let priced = subst (λ values. (prices_excess (legs_in c.args.tables.now) (priced_values c.args.tables.now values (pos 1)) ≡ None)
    × (c.in_ok-before.before ≡ prices_by c.args.tables.now (starts_in c.args.outline.now.network) (reduced (priced_values c.args.tables.now values (pos 1))))) c.as_slice.ensures c.in_ok-before.ensures.prices in
    (refusing_priced c.args.tables.now (kept_by c.args.kept.now) c.requires.ends.0 c.requires.ends.1 c.args.hint.now c.requires.ends.2 c.args.outline.now c.requires.outline c.in_ok-before.before priced row).limits

pub returns-clause-lifted : goal.returns-clause-lifted
returns-clause-lifted c =
    let row : IsRow (refusing_duals c.args.tables.now c.args.hint.now) = priced_is_row c.args.tables.now c.args.hint.now.multipliers (pos 1) c.requires.ends.2.multipliers.within (omega arith) c.requires.ends.2.values.some in
    let priced = subst (λ values. (prices_excess (legs_in c.args.tables.now) (priced_values c.args.tables.now values (pos 1)) ≡ None)
    × (c.in_ok-before.before ≡ prices_by c.args.tables.now (starts_in c.args.outline.now.network) (reduced (priced_values c.args.tables.now values (pos 1))))) c.as_slice.ensures c.in_ok-before.ensures.prices in
    refusing_paid c.args.tables.now (kept_by c.args.kept.now) c.requires.ends.0 c.requires.ends.1 c.args.hint.now c.requires.ends.2 c.args.outline.now c.requires.outline c.in_ok-before.before priced row c.paid_back.result c.paid_back.ensures

-- ---- where memory is wanting
pub returns-in_err-before-clause-memory : goal.returns-in_err-before-clause-memory
returns-in_err-before-clause-memory c =
    let p = err_from_is_err_and c.from_residual.result c.from_residual.ensures.1 in
    rw (p.1, p.2)
    (subst (λ values. IsWantedBehind (prices_excess (legs_in c.args.tables.now) (priced_values c.args.tables.now values (pos 1))) c.in_err-before.field-0.0) c.as_slice.ensures c.in_err-before.ensures.memory)

pub returns-clause-memory : goal.returns-clause-memory
returns-clause-memory c = behind _ c.paid_back.result (subst (λ values. prices_excess (legs_in c.args.tables.now) (priced_values c.args.tables.now values (pos 1)) ≡ None) c.as_slice.ensures c.in_ok-before.ensures.prices.0)
