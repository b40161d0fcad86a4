use Rattle.std.proofs.Common.{◌≡◌, ◌<◌, length, slice_index, sym, ap, subst, arith}
use Rattle.fleet_model.specs.Schedule.{legs_in}
use Rattle.plan_rotations.specs.through_flights.Worths.{IsTurnWorth, through_pair}
use Rattle.plan_rotations.proofs.through_flights.Pushing.{one_longer, pushed}
use Rattle.plan_rotations.proofs.through_flights.worths.turn_worths_from.Goals as goal

pub loop-departing-preserved : goal.loop-departing-preserved
loop-departing-preserved c = record {
  size = one_longer _ _ _ _ c.in_ok-push.ensures.items c.loop-departing.invariant.size;
  each = pushed (λ k x. IsTurnWorth c.args.turns.now.tables.now c.args.turns.now.plan.now c.args.turns.now.fleet (through_pair c.args.arriving k) x) 0 _ _ _ _
      c.in_ok-push.ensures.items c.loop-departing.invariant.size c.loop-departing.invariant.each c.turn_worth.ensures;
}

pub turn_worth-requires-clause-turns : goal.turn_worth-requires-clause-turns
turn_worth-requires-clause-turns c = c.requires.turns

pub loop-departing-init : goal.loop-departing-init
loop-departing-init c = record { size = ap length c.new-worths.ensures.items; each = λ departing lt. absurd (omega (arith, lt)) }

pub returns-clause-each : goal.returns-clause-each
returns-clause-each c departing lt =
    let turns = c.args.turns.now in
    let all : c.loop-departing.departing ≡ legs_in turns.tables.now = omega (arith, c.loop-departing-test.false, c.loop-departing.auto.departing-end, c.leg_count-departing-end.ensures) in
    subst (λ worths. IsTurnWorth turns.tables.now turns.plan.now turns.fleet (through_pair c.args.arriving departing) (slice_index worths departing)) (sym c.from_vec.ensures)
    (c.loop-departing.invariant.each departing (subst (λ n. departing < n) (sym all) lt))
