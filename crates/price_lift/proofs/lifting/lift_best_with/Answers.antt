use Rattle.std.proofs.Common.{subst, arith}
use Rattle.fleet_model.specs.Kept.{kept_by}
use Rattle.lp_rows.specs.Layout.{starts_in}
use Rattle.std.proofs.lemmas.Result.{err_from_is_err_and}
use Rattle.simplex_frac.specs.declared.dual_lift.error.LiftError.TheVariants.{TooLarge}
use Rattle.simplex_frac.proofs.dual_lift.Excesses.{first_fails}
use Rattle.price_lift.specs.TooLarge.{best_excess}
use Rattle.price_lift.proofs.RunEnds.{best_columns, has_phases, is_best}
use Rattle.price_lift.specs.Lifted.{IsLiftedPoint}
use Rattle.price_lift.proofs.LiftResults.{best_duals_behind, fails_by, fails_so, fits_by, same_best, best_excess_is, well_fits, well_lifted}
use Rattle.price_lift.proofs.lifting.lift_best_with.Goals as goal

pub of-requires-clause-columns : goal.of-requires-clause-columns
of-requires-clause-columns g c = omega (arith, c.column_count.ensures.value, best_columns _ _ _ _ c.requires.ends c.args.outline.now c.requires.outline)

pub of-requires-clause-phases : goal.of-requires-clause-phases
of-requires-clause-phases g c = has_phases _ _ _ _ c.requires.ends

pub returns-in_err-mixture-clause-too_large : goal.returns-in_err-mixture-clause-too_large
unfolding best_excess
returns-in_err-mixture-clause-too_large g c =
    let p = err_from_is_err_and c.from_residual.result c.from_residual.ensures.1 in
    let error = TooLarge c.in_err-mixture.field-0.0.step c.in_err-mixture.field-0.0.at in
    rw (p.1, p.2) (record { starts = starts_in c.args.outline.now.network; network = c.requires.outline.network; is = first_fails _ _ error (first_fails _ _ error c.in_err-mixture.ensures) })

pub lift_point-requires-clause-ends : goal.lift_point-requires-clause-ends
lift_point-requires-clause-ends g c = is_best _ _ _ _ c.requires.ends c.in_ok-mixture.mixture c.in_ok-mixture.ensures.1

pub returns-clause-lifted : goal.returns-clause-lifted
returns-clause-lifted g c = well_lifted _ _ c.lift_point.result c.lift_point.ensures.lifted _ (λ lifted is. subst (λ d. IsLiftedPoint c.args.tables.now (kept_by c.args.kept.now) (g.R.RowStore.content c.args.table.now) c.args.basis.now d lifted) (same_best c.args.tables.now (g.R.RowStore.content c.args.table.now) c.in_ok-mixture.mixture) is)

pub returns-clause-fits : goal.returns-clause-fits
returns-clause-fits g c = fits_by _ _ _ _ c.requires.outline.network c.lift_point.result (well_fits _ _ c.lift_point.result c.lift_point.ensures.lifted _ (best_excess_is c.args.tables.now (kept_by c.args.kept.now) (g.R.RowStore.content c.args.table.now) c.args.basis.now c.in_ok-mixture.mixture (starts_in c.args.outline.now.network) c.in_ok-mixture.ensures.0))

pub returns-clause-too_large : goal.returns-clause-too_large
returns-clause-too_large g c = fails_by _ _ _ _ c.requires.outline.network c.lift_point.result (fails_so _ _ c.lift_point.result c.lift_point.ensures.lifted _ (best_excess_is c.args.tables.now (kept_by c.args.kept.now) (g.R.RowStore.content c.args.table.now) c.args.basis.now c.in_ok-mixture.mixture (starts_in c.args.outline.now.network) c.in_ok-mixture.ensures.0))

pub returns-clause-memory : goal.returns-clause-memory
returns-clause-memory g c = best_duals_behind c.args.tables.now (g.R.RowStore.content c.args.table.now) c.in_ok-mixture.mixture c.lift_point.result c.in_ok-mixture.ensures.0 c.lift_point.ensures.memory
