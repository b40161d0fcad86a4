use Rattle.std.proofs.Common.{rules, subst, sym}
use Rattle.std.proofs.lemmas.Int.{to_z-of_z}
use Rattle.std.proofs.lemmas.Result.{err_from_is_err_and}
use mir.Val.{SFits}
use mir.Syntax.{w128}
use Rattle.frac_row.specs.Row.{IsRow}
use Rattle.frac_row.proofs.Rows.{same_row}
use Rattle.simplex_frac.specs.dual_lift.Readings.{duals_by, duals_excess}
use Rattle.simplex_frac.specs.declared.dual_lift.error.LiftError.TheVariants.{TooLarge}
use Rattle.simplex_frac.proofs.dual_lift.DualRows.{duals_are_row}
use Rattle.simplex_frac.proofs.dual_lift.Excesses.{both_well, first_fails, then_fails, then_wanted}
use Rattle.simplex_frac.proofs.dual_lift.values.duals.Goals as goal

pub returns-in_err-scale-clause-duals : goal.returns-in_err-scale-clause-duals
unfolding duals_excess
returns-in_err-scale-clause-duals g c =
    let p = err_from_is_err_and c.from_residual.result c.from_residual.ensures.1 in
    rw (p.1, p.2) (first_fails _ _ (TooLarge c.in_err-scale.field-0.0.step c.in_err-scale.field-0.0.at) c.in_err-scale.ensures)

pub returns-in_err-numbers-clause-duals : goal.returns-in_err-numbers-clause-duals
unfolding duals_excess
returns-in_err-numbers-clause-duals g c =
    let p = err_from_is_err_and c.from_residual-in_err-numbers.result c.from_residual-in_err-numbers.ensures.1 in
    rw (p.1, p.2) (then_fails _ _ c.in_err-numbers.field-0.0 c.in_ok-scale.ensures.0 c.in_err-numbers.ensures.numbers)

pub returns-in_err-numbers-clause-memory : goal.returns-in_err-numbers-clause-memory
unfolding duals_excess
returns-in_err-numbers-clause-memory g c =
    let p = err_from_is_err_and c.from_residual-in_err-numbers.result c.from_residual-in_err-numbers.ensures.1 in
    rw (p.1, p.2) (then_wanted _ _ c.in_err-numbers.field-0.0 c.in_ok-scale.ensures.0 c.in_err-numbers.ensures.memory)

pub returns-clause-duals : goal.returns-clause-duals
unfolding duals_by duals_excess
returns-clause-duals g c =
    let fs : SFits w128 c.in_ok-scale.scale = search rules in (
      both_well _ _ c.in_ok-scale.ensures.0 c.in_ok-numbers.ensures.numbers.0,
      rw (to_z-of_z w128 c.in_ok-scale.scale fs) (same_row _ _ _ _ c.in_ok-numbers.ensures.numbers.1 c.in_ok-scale.ensures.1),
    )

pub returns-clause-row : goal.returns-clause-row
returns-clause-row g c =
    subst IsRow (sym (returns-clause-duals g c).1)
    (duals_are_row (g.R.RowStore.content c.args.table.now) c.args.reading.now c.args.first (g.met.R.RowStore.is_table c.args.table.now) c.requires.reading (returns-clause-duals g c).0)
