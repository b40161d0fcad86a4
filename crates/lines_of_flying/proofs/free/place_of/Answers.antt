use Rattle.std.proofs.Common.{◌≡◌, refl, ◌∙◌, ap, arith, ℕ}
use Rattle.sums.specs.Below.{count_below}
use Rattle.fleet_model.specs.Schedule.{legs_in}
use Rattle.lines_of_flying.specs.ground_turns.FirstOut.{departure_place, landing_place}
use Rattle.lines_of_flying.specs.Moves.{is_ahead, place_of}
use Rattle.lines_of_flying.specs.declared.ground.Ground.{Ground}
use Rattle.lines_of_flying.specs.declared.ground.Movement.{Movement}
use Rattle.lines_of_flying.specs.declared.ground.Movement.TheVariants as movement
use Rattle.lines_of_flying.proofs.free.place_of.Goals as goal

placed : (g : Ground) (move : Movement) (l : ℕ) → count_below (is_ahead g move l) (legs_in g.tables.now) ≡ place_of g move l
unfolding landing_place departure_place
placed g movement.Landing l = refl
placed g movement.Departure l = refl

pub returns-clause-value : goal.returns-clause-value
returns-clause-value c =
    c.loop-other.invariant.counted ∙ ap (count_below (is_ahead c.args.ground.now c.args.movement c.args.leg)) (omega (arith, c.loop-other-test.false, c.loop-other.auto.other-end, c.leg_count-other-end.ensures))
    ∙ placed c.args.ground.now c.args.movement c.args.leg
