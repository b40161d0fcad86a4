use Rattle.std.proofs.Common.{rules, ◌∙◌}
use Rattle.std.proofs.lemmas.Int.{to_z-of_z}
use mir.Val.{SFits}
use mir.Syntax.{w128}
use Rattle.simplex_frac.proofs.dual_lift.Mixtures.{cost_part_is, phase_part_is}
use Rattle.simplex_frac.proofs.dual_lift.mixture.Mixture.of.Goals as goal

pub returns : goal.returns
returns g c =
    let table = g.R.RowStore.content c.args.table.now in
    let fp : SFits w128 c.phase_den-phase_den.result = search rules in
    let fc : SFits w128 c.cost_den-cost_den.result = search rules in
    let fd : SFits w128 c.common_divisor-divisor.result = search rules in
    let fq : SFits w128 c.quotient.result = search rules in
    let fr : SFits w128 c.quotient-2.result = search rules in
    let fm : SFits w128 c.in_ok-phases.phases = search rules in
    let divisor = simp to_z-of_z at c.common_divisor-divisor.ensures.value in
    let one = simp to_z-of_z at c.quotient.ensures in
    let two = simp to_z-of_z at c.quotient-2.ensures in (
      c.in_ok-phases.ensures.0,
      record {
        phases = to_z-of_z w128 c.in_ok-phases.phases fm ∙ c.in_ok-phases.ensures.1;
        phase_part = to_z-of_z w128 c.quotient.result fq ∙ phase_part_is table c.phase_den-phase_den.result c.cost_den-cost_den.result c.common_divisor-divisor.result c.quotient.result c.phase_den-phase_den.ensures.value c.cost_den-cost_den.ensures.value divisor one;
        cost_part = to_z-of_z w128 c.quotient-2.result fr ∙ cost_part_is table c.phase_den-phase_den.result c.cost_den-cost_den.result c.common_divisor-divisor.result c.quotient-2.result c.phase_den-phase_den.ensures.value c.cost_den-cost_den.ensures.value divisor two;
      },
    )
