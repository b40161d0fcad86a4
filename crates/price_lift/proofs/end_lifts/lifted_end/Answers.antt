use Rattle.std.proofs.Common.{◌∙◌, rules, sym, ap, subst, length, arith, of_z, to_z}
use Rattle.std.proofs.lemmas.Int.{ints, to_z-of_z}
use Rattle.std.proofs.lemmas.Result.{err_from_is_err_and}
use mir.Val.{SFits}
use mir.Syntax.{w128}
use Rattle.frac_row.specs.Outgrown.{IsWithin}
use Rattle.frac_row.specs.Row.{IsRow}
use Rattle.fleet_model.specs.Kept.{kept_by}
use Rattle.fleet_model.specs.Schedule.{legs_in}
use Rattle.simplex_frac.specs.dual_lift.TooLarge.{IsLiftError}
use Rattle.simplex_frac.proofs.dual_lift.Excesses.{first_fails, wanted_behind}
use Rattle.price_lift.specs.EndLifts.{end_duals, end_excess, priced_values}
use Rattle.price_lift.specs.TooLarge.{prices_excess}
use Rattle.price_lift.proofs.EndLifts.{end_lifted, lowest_fails, lowest_is, mixed_fails, nodes_priced, pairs_within, paying_fails, priced_by, priced_is_row, values_long}
use Rattle.price_lift.proofs.end_lifts.lifted_end.Goals as goal

pub end_prices-requires-clause-long : goal.end_prices-requires-clause-long
end_prices-requires-clause-long c =
    ap length c.as_slice.ensures ∙ values_long c.args.tables.now (kept_by c.args.kept.now) c.requires.ends.0 c.requires.ends.1 c.args.hint.now.duals c.requires.ends.2.duals c.args.hint.now.dual_scale c.args.outline.now c.requires.outline

pub returns-in_err-before-clause-lifted : goal.returns-in_err-before-clause-lifted
unfolding end_excess
returns-in_err-before-clause-lifted c =
    let f : SFits w128 c.args.hint.now.dual_scale = search rules in
    let p = err_from_is_err_and c.from_residual-in_err-before.result c.from_residual-in_err-before.ensures.1 in
    rw (p.1, p.2)
    (first_fails _ _ c.in_err-before.field-0.0 (subst (λ s. IsLiftError (prices_excess (legs_in c.args.tables.now) (priced_values c.args.tables.now c.args.hint.now.duals s)) c.in_err-before.field-0.0) (to_z-of_z w128 c.args.hint.now.dual_scale f)
    (subst (λ values. IsLiftError (prices_excess (legs_in c.args.tables.now) (priced_values c.args.tables.now values (to_z w128 (of_z w128 c.args.hint.now.dual_scale)))) c.in_err-before.field-0.0) c.as_slice.ensures c.in_err-before.ensures.prices)))

pub end_mixed-requires-clause-long : goal.end_mixed-requires-clause-long
end_mixed-requires-clause-long c = pairs_within c.args.tables.now (kept_by c.args.kept.now) c.requires.ends.0 c.requires.ends.1 c.args.hint.now c.requires.ends.2 c.args.outline.now c.requires.outline

pub returns-in_err-mixed-clause-lifted : goal.returns-in_err-mixed-clause-lifted
returns-in_err-mixed-clause-lifted c =
    let f : SFits w128 c.args.hint.now.dual_scale = search rules in
    let fits : IsWithin c.args.hint.now.dual_scale = omega (arith, ints, f.sfits, c.requires.ends.2.values.some) in
    let row : IsRow (end_duals c.args.tables.now c.args.hint.now) = priced_is_row c.args.tables.now c.args.hint.now.duals c.args.hint.now.dual_scale c.requires.ends.2.duals.within fits c.requires.ends.2.values.some in
    let priced = priced_by c.args.tables.now c.args.outline.now c.in_ok-before.before _ _ _ _ c.as_slice.ensures (to_z-of_z w128 c.args.hint.now.dual_scale f) c.in_ok-before.ensures.prices in
    let p = err_from_is_err_and c.from_residual-in_err-mixed.result c.from_residual-in_err-mixed.ensures.1 in
    rw (p.1, p.2) (mixed_fails c.args.tables.now (kept_by c.args.kept.now) c.requires.ends.0 c.requires.ends.1 c.args.hint.now c.requires.ends.2 c.args.outline.now c.requires.outline c.in_ok-before.before priced row c.in_err-mixed.field-0.0 c.in_err-mixed.ensures.mixed)

pub paid_back-requires-clause-within : goal.paid_back-requires-clause-within
paid_back-requires-clause-within c =
    let f : SFits w128 c.args.hint.now.dual_scale = search rules in
    let fits : IsWithin c.args.hint.now.dual_scale = omega (arith, ints, f.sfits, c.requires.ends.2.values.some) in
    let row : IsRow (end_duals c.args.tables.now c.args.hint.now) = priced_is_row c.args.tables.now c.args.hint.now.duals c.args.hint.now.dual_scale c.requires.ends.2.duals.within fits c.requires.ends.2.values.some in
    let priced = priced_by c.args.tables.now c.args.outline.now c.in_ok-before.before _ _ _ _ c.as_slice.ensures (to_z-of_z w128 c.args.hint.now.dual_scale f) c.in_ok-before.ensures.prices in
    (nodes_priced c.args.tables.now (kept_by c.args.kept.now) c.requires.ends.0 c.requires.ends.1 c.args.hint.now c.requires.ends.2 c.args.outline.now c.requires.outline c.in_ok-before.before priced row).limits

pub returns-in_err-prices-clause-lifted : goal.returns-in_err-prices-clause-lifted
returns-in_err-prices-clause-lifted c =
    let f : SFits w128 c.args.hint.now.dual_scale = search rules in
    let fits : IsWithin c.args.hint.now.dual_scale = omega (arith, ints, f.sfits, c.requires.ends.2.values.some) in
    let row : IsRow (end_duals c.args.tables.now c.args.hint.now) = priced_is_row c.args.tables.now c.args.hint.now.duals c.args.hint.now.dual_scale c.requires.ends.2.duals.within fits c.requires.ends.2.values.some in
    let priced = priced_by c.args.tables.now c.args.outline.now c.in_ok-before.before _ _ _ _ c.as_slice.ensures (to_z-of_z w128 c.args.hint.now.dual_scale f) c.in_ok-before.ensures.prices in
    let p = err_from_is_err_and c.from_residual-in_err-prices.result c.from_residual-in_err-prices.ensures.1 in
    rw (p.1, p.2) (paying_fails c.args.tables.now (kept_by c.args.kept.now) c.requires.ends.0 c.requires.ends.1 c.args.hint.now c.requires.ends.2 c.args.outline.now c.requires.outline c.in_ok-before.before priced row c.in_ok-mixed.mixed c.in_ok-mixed.ensures.mixed c.in_err-prices.field-0.0 c.in_err-prices.ensures)

pub returns-clause-lifted : goal.returns-clause-lifted
returns-clause-lifted c =
    let f : SFits w128 c.args.hint.now.dual_scale = search rules in
    let fits : IsWithin c.args.hint.now.dual_scale = omega (arith, ints, f.sfits, c.requires.ends.2.values.some) in
    let row : IsRow (end_duals c.args.tables.now c.args.hint.now) = priced_is_row c.args.tables.now c.args.hint.now.duals c.args.hint.now.dual_scale c.requires.ends.2.duals.within fits c.requires.ends.2.values.some in
    let priced = priced_by c.args.tables.now c.args.outline.now c.in_ok-before.before _ _ _ _ c.as_slice.ensures (to_z-of_z w128 c.args.hint.now.dual_scale f) c.in_ok-before.ensures.prices in
    end_lifted c.args.tables.now (kept_by c.args.kept.now) c.requires.ends.0 c.requires.ends.1 c.args.hint.now c.requires.ends.2 c.args.outline.now c.requires.outline c.in_ok-before.before priced row c.in_ok-mixed.mixed c.in_ok-mixed.ensures.mixed c.in_ok-prices.prices c.in_ok-prices.ensures

-- ---- what is decided before memory is taken
pub end_fits-requires-clause-long : goal.end_fits-requires-clause-long
end_fits-requires-clause-long c = values_long c.args.tables.now (kept_by c.args.kept.now) c.requires.ends.0 c.requires.ends.1 c.args.hint.now.duals c.requires.ends.2.duals c.args.hint.now.dual_scale c.args.outline.now c.requires.outline

pub end_fits-requires-clause-pairs : goal.end_fits-requires-clause-pairs
end_fits-requires-clause-pairs c = pairs_within c.args.tables.now (kept_by c.args.kept.now) c.requires.ends.0 c.requires.ends.1 c.args.hint.now c.requires.ends.2 c.args.outline.now c.requires.outline

pub returns-in_err-end_fits-clause-lifted : goal.returns-in_err-end_fits-clause-lifted
returns-in_err-end_fits-clause-lifted c =
    let p = err_from_is_err_and c.from_residual.result c.from_residual.ensures.1 in
    rw (p.1, p.2) (lowest_fails c.args.tables.now (kept_by c.args.kept.now) c.requires.ends.0 c.requires.ends.1 c.args.hint.now c.requires.ends.2 c.args.outline.now c.requires.outline c.in_err-end_fits.field-0.0 c.in_err-end_fits.ensures)

-- ---- where memory is wanting

pub returns-in_err-before-clause-memory : goal.returns-in_err-before-clause-memory
returns-in_err-before-clause-memory c =
    let p = err_from_is_err_and c.from_residual-in_err-before.result c.from_residual-in_err-before.ensures.1 in
    rw (p.1, p.2) (wanted_behind _ c.in_err-before.field-0.0 (sym (lowest_is c.args.tables.now (kept_by c.args.kept.now) c.requires.ends.0 c.requires.ends.1 c.args.hint.now c.requires.ends.2 c.args.outline.now c.requires.outline) ∙ c.in_ok-end_fits.ensures))

pub returns-in_err-mixed-clause-memory : goal.returns-in_err-mixed-clause-memory
returns-in_err-mixed-clause-memory c =
    let p = err_from_is_err_and c.from_residual-in_err-mixed.result c.from_residual-in_err-mixed.ensures.1 in
    rw (p.1, p.2) (wanted_behind _ c.in_err-mixed.field-0.0 (sym (lowest_is c.args.tables.now (kept_by c.args.kept.now) c.requires.ends.0 c.requires.ends.1 c.args.hint.now c.requires.ends.2 c.args.outline.now c.requires.outline) ∙ c.in_ok-end_fits.ensures))

pub returns-in_err-prices-clause-memory : goal.returns-in_err-prices-clause-memory
returns-in_err-prices-clause-memory c =
    let p = err_from_is_err_and c.from_residual-in_err-prices.result c.from_residual-in_err-prices.ensures.1 in
    rw (p.1, p.2) (wanted_behind _ c.in_err-prices.field-0.0 (sym (lowest_is c.args.tables.now (kept_by c.args.kept.now) c.requires.ends.0 c.requires.ends.1 c.args.hint.now c.requires.ends.2 c.args.outline.now c.requires.outline) ∙ c.in_ok-end_fits.ensures))
