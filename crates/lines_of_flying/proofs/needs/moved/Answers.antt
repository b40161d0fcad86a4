use Rattle.std.proofs.Common.{◌≡◌, refl, ◌∙◌, ap, arith, ℕ}
use Rattle.sums.specs.Below.{count_below}
use Rattle.fleet_model.specs.Schedule.{legs_in}
use Rattle.lines_of_flying.specs.ground_turns.FirstOut.{free_departed, free_landed}
use Rattle.lines_of_flying.specs.Moves.{has_moved, moved_by}
use Rattle.lines_of_flying.specs.declared.ground.Ground.{Ground}
use Rattle.lines_of_flying.specs.declared.ground.Movement.{Movement}
use Rattle.lines_of_flying.specs.declared.ground.Movement.TheVariants as movement
use Rattle.lines_of_flying.proofs.needs.moved.Goals as goal

all_moved : (g : Ground) (move : Movement) (s m : ℕ) → count_below (has_moved g move s m) (legs_in g.tables.now) ≡ moved_by g move s m
unfolding free_landed free_departed
all_moved g movement.Landing s m = refl
all_moved g movement.Departure s m = refl

pub returns-clause-value : goal.returns-clause-value
returns-clause-value c =
    c.loop-leg.invariant.counted
    ∙ ap (count_below (has_moved c.args.ground.now c.args.movement c.args.station c.args.minute)) (omega (arith, c.loop-leg-test.false, c.loop-leg.auto.leg-end, c.leg_count-leg-end.ensures))
    ∙ all_moved c.args.ground.now c.args.movement c.args.station c.args.minute
