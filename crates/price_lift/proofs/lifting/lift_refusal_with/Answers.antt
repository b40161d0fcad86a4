use Rattle.std.proofs.Common.{subst}
use Rattle.fleet_model.specs.Kept.{kept_by}
use Rattle.lp_rows.specs.Layout.{starts_in}
use Rattle.price_lift.proofs.RunEnds.{is_refusal}
use Rattle.price_lift.specs.Lifted.{IsLiftedRefusal}
use Rattle.price_lift.proofs.LiftResults.{fails_by, fails_so, fits_by, refusal_duals_behind, same_refusal, refusal_excess_is, well_fits, well_lifted}
use Rattle.price_lift.proofs.lifting.lift_refusal_with.Goals as goal

pub lift_none-requires-clause-ends : goal.lift_none-requires-clause-ends
lift_none-requires-clause-ends g c = (c.args.basis.now, is_refusal _ _ _ _ c.requires.ends)

pub returns-clause-lifted : goal.returns-clause-lifted
returns-clause-lifted g c = well_lifted _ _ c.lift_none.result c.lift_none.ensures.lifted _ (λ lifted is. subst (λ d. IsLiftedRefusal c.args.tables.now (kept_by c.args.kept.now) d lifted) (same_refusal c.args.tables.now (g.R.RowStore.content c.args.table.now)) is)

pub returns-clause-fits : goal.returns-clause-fits
returns-clause-fits g c = fits_by _ _ _ _ c.requires.outline.network c.lift_none.result (well_fits _ _ c.lift_none.result c.lift_none.ensures.lifted _ (refusal_excess_is c.args.tables.now (kept_by c.args.kept.now) (g.R.RowStore.content c.args.table.now) (starts_in c.args.outline.now.network)))

pub returns-clause-too_large : goal.returns-clause-too_large
returns-clause-too_large g c = fails_by _ _ _ _ c.requires.outline.network c.lift_none.result (fails_so _ _ c.lift_none.result c.lift_none.ensures.lifted _ (refusal_excess_is c.args.tables.now (kept_by c.args.kept.now) (g.R.RowStore.content c.args.table.now) (starts_in c.args.outline.now.network)))

pub returns-clause-memory : goal.returns-clause-memory
returns-clause-memory g c = refusal_duals_behind c.args.tables.now (g.R.RowStore.content c.args.table.now) c.lift_none.result c.lift_none.ensures.memory
