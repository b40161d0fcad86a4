use Rattle.std.proofs.Common.{◌∙◌, sym, ap, subst, arith}
use Rattle.fleet_model.specs.declared.parts.Connection.{Connection}
use Rattle.lines_of_flying.specs.ground_turns.Nights.{nights_in_turn}
use Rattle.euler_rotation.specs.Often.{StayBelow, stays_below}
use Rattle.euler_rotation.proofs.TourGone.{gone_all, gone_more, gone_too_far}
use Rattle.euler_rotation.proofs.kept.go_round.Goals as goal

pub returns-in-None : goal.returns-in-None
returns-in-None c =
    gone_too_far c.args.asked.now.tables.now c.args.asked.now.days c.args.before c.args.asked.now.fleet c.args.legs.now c.loop-place.place c.loop-place.since c.loop-place.invariant
    c.loop-place-test.true
    (ap (λ turn. stays_below c.args.asked.now.tables.now c.args.asked.now.days c.loop-place.since (nights_in_turn c.args.asked.now.tables.now c.args.asked.now.fleet turn)) (sym c.turn_after.ensures)
    ∙ c.in-None.ensures)

pub loop-place-preserved : goal.loop-place-preserved
loop-place-preserved c =
    gone_more c.args.asked.now.tables.now c.args.asked.now.days c.args.before c.args.asked.now.fleet c.args.legs.now c.loop-place.place c.loop-place.since c.loop-place.invariant
    c.in-Some.more c.loop-place-test.true
    (subst (λ (turn : Connection). StayBelow c.args.asked.now.tables.now c.args.asked.now.days c.loop-place.since (nights_in_turn c.args.asked.now.tables.now c.args.asked.now.fleet turn) c.in-Some.more)
    c.turn_after.ensures c.in-Some.ensures)

pub returns : goal.returns
returns c =
    gone_all c.args.asked.now.tables.now c.args.asked.now.days c.args.before c.args.asked.now.fleet c.args.legs.now c.loop-place.place c.loop-place.since c.loop-place.invariant
    (omega (arith, c.loop-place-test.false))
