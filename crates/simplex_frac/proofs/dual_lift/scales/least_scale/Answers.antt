use Rattle.std.proofs.Common.{◌≡◌, arith, rules, subst, to_z, nat_lt, suc, ◌<◌}
use Rattle.std.proofs.lemmas.Int.{ints, to_z-of_z}
use mir.Val.{SFits}
use mir.Syntax.{w128}
use Rattle.row_store.specs.Table.{height_of}
use Rattle.simplex_frac.specs.dual_lift.Scales.{lowest_den, scale_below}
use Rattle.simplex_frac.proofs.dual_lift.Excesses.{found_at}
use Rattle.simplex_frac.proofs.dual_lift.ScaleSteps.{IsScaleSoFar, first_scale, other_scale, wanted_scale, past_scale}
use Rattle.simplex_frac.proofs.dual_lift.scales.least_scale.Goals as goal
use Rattle.simplex_frac.proofs.dual_lift.scales.least_scale.Goals.{then-basis-line+in-Some, else-basis-line}

pub loop-line-init : goal.loop-line-init
loop-line-init g c = first_scale c.args.most (g.R.RowStore.content c.args.table.now) c.args.basis.now c.args.wanted c.requires.limit

pub loop-line-preserved : goal.loop-line-preserved
loop-line-preserved g c = elim c.if-basis-line.branch [
  | then-basis-line+in-Some w ↦
      let table = g.R.RowStore.content c.args.table.now in
      let fd : SFits w128 w.lowest_den-den.result = search rules in
      let fc : SFits w128 w.in-Some.common = search rules in
      let facts = simp to_z-of_z at w.in-Some.ensures in
      let some : 0 < lowest_den table c.loop-line.line = omega (arith, ints, w.lowest_den-den.ensures.value, w.lowest_den-den.ensures.positive) in
      rw (w.scale-is, to_z-of_z w128 w.in-Some.common fc)
      (wanted_scale c.args.most table c.args.basis.now c.args.wanted c.loop-line.line (to_z w128 c.loop-line.scale-bits) w.lowest_den-den.result w.in-Some.common c.loop-line.invariant w.if-basis-line.true w.lowest_den-den.ensures.value some facts.0 facts.1)
  | else-basis-line w ↦
      rw w.scale-is (other_scale c.args.most (g.R.RowStore.content c.args.table.now) c.args.basis.now c.args.wanted c.loop-line.line (to_z w128 c.loop-line.scale-bits) c.loop-line.invariant w.if-basis-line.false)
]

pub returns-in-None : goal.returns-in-None
returns-in-None g c =
    let table = g.R.RowStore.content c.args.table.now in
    let fd : SFits w128 c.lowest_den-den.result = search rules in
    let past = simp to_z-of_z at c.in-None.ensures in
    let below : c.loop-line.line < height_of table = omega arith in
    record {
      some = tt;
      within = tt;
      scale = found_at (λ line. nat_lt c.args.most (scale_below table c.args.basis.now c.args.wanted (suc line))) 6 c.loop-line.line (height_of table) c.into.result c.loop-line.invariant.fits below
          (past_scale c.args.most table c.args.basis.now c.args.wanted c.loop-line.line (to_z w128 c.loop-line.scale-bits) c.lowest_den-den.result c.loop-line.invariant c.if-basis-line.true c.lowest_den-den.ensures.value past) c.into.ensures;
    }

pub returns-clause-scale : goal.returns-clause-scale
returns-clause-scale g c =
    let all : c.loop-line.line ≡ height_of (g.R.RowStore.content c.args.table.now) = omega arith in
    let end = subst (λ n. IsScaleSoFar c.args.most (g.R.RowStore.content c.args.table.now) c.args.basis.now c.args.wanted n (to_z w128 c.loop-line.scale-bits)) all c.loop-line.invariant in
    (end.fits, end.scale_is)

pub returns-clause-some : goal.returns-clause-some
returns-clause-some g c = c.loop-line.invariant.some

pub returns-clause-within : goal.returns-clause-within
returns-clause-within g c = c.loop-line.invariant.within
