use Rattle.std.proofs.Common.{◌≡◌, ◌∙◌, ap, arith}
use Rattle.fleet_model.specs.Schedule.{legs_in}
use Rattle.lines_of_flying.specs.cycle_join.Labels.{label_of, legs_labelled}
use Rattle.lines_of_flying.proofs.cycle_join.parts.legs_of.Goals as goal

pub returns : goal.returns
returns c =
    let labels = c.args.cycles.now.labels.items in
    let all : c.loop-leg.leg ≡ legs_in c.args.ground.now.tables.now = omega (arith, c.loop-leg-test.false, c.loop-leg.auto.leg-end, c.leg_count-leg-end.ensures) in
    c.from_vec.ensures ∙ c.loop-leg.invariant ∙ ap (legs_labelled labels (label_of labels c.args.first)) all
