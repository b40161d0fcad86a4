use Rattle.std.proofs.Common.{◌≡◌, arith, rules, pos, ◌<◌, refl, sym, ◌∙◌, ap, subst, None, to_z}
use Rattle.std.proofs.lemmas.Int.{to_z-of_z}
use Rattle.std.proofs.lemmas.Result.{err_from_is_err_and}
use mir.Val.{SFits}
use mir.Syntax.{w128}
use Rattle.sums.specs.Below.{max_below}
use Rattle.sums.specs.Places.{first_below}
use Rattle.sums.proofs.Maxima.{max_below-zero}
use Rattle.simplex_frac.specs.dual_lift.Duals.{phases_added, phases_wanted, real_columns}
use Rattle.simplex_frac.specs.dual_lift.TooLarge.{phases_excess}
use Rattle.simplex_frac.proofs.dual_lift.Excesses.{place_found, place_well}
use Rattle.simplex_frac.proofs.dual_lift.Mixtures.{most_more}
use Rattle.simplex_frac.proofs.dual_lift.mixture.phases_added.Goals as goal

pub loop-column-init : goal.loop-column-init
loop-column-init g c = record { most = ap pos (sym (max_below-zero (phases_wanted (g.R.RowStore.content c.args.table.now)))); fits = refl }

pub returns-in_err-wanted : goal.returns-in_err-wanted
returns-in_err-wanted g c =
    let p = err_from_is_err_and c.from_residual.result c.from_residual.ensures.1 in
    let below : c.loop-column.column < real_columns (g.R.RowStore.content c.args.table.now) = omega arith in
    rw (p.1, p.2)
    (place_found (phases_excess (g.R.RowStore.content c.args.table.now)) c.loop-column.column (real_columns (g.R.RowStore.content c.args.table.now)) c.in_err-wanted.field-0.0
    c.loop-column.invariant.fits below c.in_err-wanted.ensures)

pub loop-column-preserved : goal.loop-column-preserved
loop-column-preserved g c =
    let fw : SFits w128 c.in_ok-wanted.wanted = search rules in
    let fr : SFits w128 c.greater-most.result = search rules in
    let up = simp to_z-of_z at c.greater-most.ensures in
    record {
      most = to_z-of_z w128 c.greater-most.result fr ∙ up ∙ most_more (phases_wanted (g.R.RowStore.content c.args.table.now)) c.loop-column.column (to_z w128 c.loop-column.most-bits) c.in_ok-wanted.wanted c.loop-column.invariant.most c.in_ok-wanted.ensures.1;
      fits = place_well (phases_excess (g.R.RowStore.content c.args.table.now)) c.loop-column.column c.loop-column.invariant.fits c.in_ok-wanted.ensures.0;
    }

pub returns : goal.returns
unfolding phases_added
returns g c =
    let all : c.loop-column.column ≡ real_columns (g.R.RowStore.content c.args.table.now) = omega arith in (
      subst (λ n. first_below (phases_excess (g.R.RowStore.content c.args.table.now)) n ≡ None) all c.loop-column.invariant.fits,
      subst (λ n. to_z w128 c.loop-column.most-bits ≡ pos (max_below (phases_wanted (g.R.RowStore.content c.args.table.now)) n)) all c.loop-column.invariant.most,
    )
