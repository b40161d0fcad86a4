use Rattle.std.proofs.Common.{◌+◌, ◌-◌, ◌<◌, arith, rules, ◌∙◌}
use Rattle.std.proofs.lemmas.Int.{to_z-of_z}
use Rattle.std.proofs.lemmas.Result.{err_from_is_err_and}
use mir.Val.{SFits}
use mir.Syntax.{w128}
use Rattle.sums.proofs.Places.{list_below-push}
use Rattle.row_store.specs.Table.{height_of}
use Rattle.simplex_frac.specs.dual_lift.Readings.{value_by, value_excess_by}
use Rattle.simplex_frac.proofs.dual_lift.Excesses.{place_found, place_well}
use Rattle.simplex_frac.proofs.dual_lift.values.values.Goals as goal

pub loop-past-preserved : goal.loop-past-preserved
loop-past-preserved g c =
    let table = g.R.RowStore.content c.args.table.now in
    let fv : SFits w128 c.in_ok-value.field-0 = search rules in
    record {
      numbers = c.in_ok-push.ensures.items ∙ list_below-push (λ k. value_by table c.args.reading.now (c.args.first + k)) c.loop-past.past _ _ c.loop-past.invariant.numbers (to_z-of_z w128 c.in_ok-value.field-0 fv ∙ c.in_ok-value.ensures.1);
      fits = place_well (λ k. value_excess_by table c.args.reading.now (c.args.first + k)) c.loop-past.past c.loop-past.invariant.fits c.in_ok-value.ensures.0;
    }

pub returns-in_err-value-clause-numbers : goal.returns-in_err-value-clause-numbers
returns-in_err-value-clause-numbers g c =
    let table = g.R.RowStore.content c.args.table.now in
    let below : c.loop-past.past < height_of table - c.args.first = omega arith in
    let p = err_from_is_err_and c.from_residual-in_err-value.result c.from_residual-in_err-value.ensures.1 in
    rw (p.1, p.2) (place_found (λ k. value_excess_by table c.args.reading.now (c.args.first + k)) c.loop-past.past (height_of table - c.args.first) _ c.loop-past.invariant.fits below c.in_err-value.ensures)

pub returns-in_err-push-clause-memory : goal.returns-in_err-push-clause-memory
returns-in_err-push-clause-memory g c =
    let p = err_from_is_err_and c.from_residual-in_err-push.result c.from_residual-in_err-push.ensures.1 in
    rw (p.1, p.2) c.in_ok-all_fit.ensures
