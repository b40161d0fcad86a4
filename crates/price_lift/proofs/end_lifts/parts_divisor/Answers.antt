use Rattle.std.proofs.Common.{refl, rules, arith}
use Rattle.std.proofs.lemmas.Int.{to_z-of_z}
use mir.Val.{SFits}
use mir.Syntax.{w128}
use Rattle.price_lift.proofs.PartScales.{divisor_more, divisor_of_all, some_divisor}
use Rattle.price_lift.proofs.end_lifts.parts_divisor.Goals as goal

pub loop-column-preserved : goal.loop-column-preserved
loop-column-preserved c =
    let f : SFits w128 c.divisor_with-divisor.result = search rules in
    rw (to_z-of_z w128 c.divisor_with-divisor.result f) (divisor_more c.args.point.now c.args.scale c.args.count c.loop-column.column _ _ _ c.loop-column.invariant c.loop-column-test.true refl c.divisor_with-divisor.ensures)

pub returns-clause-value : goal.returns-clause-value
returns-clause-value c = divisor_of_all _ _ _ c.loop-column.column _ c.loop-column.invariant (omega arith)

pub returns-clause-positive : goal.returns-clause-positive
returns-clause-positive c = some_divisor _ _ _ _ c.requires.some (returns-clause-value c)
