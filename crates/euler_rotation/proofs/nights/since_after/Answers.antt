use Rattle.std.proofs.Common.{◌+◌, sym, ◌∙◌, ap, arith}
use Rattle.fleet_model.specs.Schedule.{leg_on}
use Rattle.fleet_model.specs.Times.{nights_of}
use Rattle.lines_of_flying.specs.ground_turns.Nights.{night_of_stay}
use Rattle.lines_of_flying.specs.ground_turns.Turns.{nights_waited}
use Rattle.euler_rotation.proofs.NightsSince.{maintained, none_waited, stood, too_many_aloft, too_many_stood}
use Rattle.euler_rotation.proofs.nights.since_after.Goals as goal

pub returns-then-aloft-asked : goal.returns-then-aloft-asked
returns-then-aloft-asked c =
    too_many_aloft c.args.asked.now.tables.now c.args.asked.now.days c.args.since (nights_of c.args.asked.now.tables.now (leg_on c.args.turn.arriving c.args.asked.now.fleet))
    (nights_waited c.args.asked.now.tables.now c.args.asked.now.fleet c.args.turn) (night_of_stay c.args.asked.now.tables.now c.args.asked.now.fleet c.args.turn)
    c.requires.since (omega (arith, c.if-aloft-asked.true, c.nights.ensures.value ∙ ap (nights_of c.args.asked.now.tables.now) c.flight.ensures.value))

pub returns-then-waited-eq0 : goal.returns-then-waited-eq0
returns-then-waited-eq0 c =
    none_waited c.args.asked.now.tables.now c.args.asked.now.days c.args.since (nights_of c.args.asked.now.tables.now (leg_on c.args.turn.arriving c.args.asked.now.fleet))
    (nights_waited c.args.asked.now.tables.now c.args.asked.now.fleet c.args.turn) (night_of_stay c.args.asked.now.tables.now c.args.asked.now.fleet c.args.turn)
    c.requires.since (omega (arith, c.if-aloft-asked.false, c.nights.ensures.value ∙ ap (nights_of c.args.asked.now.tables.now) c.flight.ensures.value))
    (c.args.since + c.nights.result) (omega (arith, c.nights_waited-waited.ensures.value, c.if-waited-eq0.true)) (omega (arith, c.nights.ensures.value ∙ ap (nights_of c.args.asked.now.tables.now) c.flight.ensures.value))

pub returns-then-is_maintained : goal.returns-then-is_maintained
returns-then-is_maintained c =
    maintained c.args.asked.now.tables.now c.args.asked.now.days c.args.since (nights_of c.args.asked.now.tables.now (leg_on c.args.turn.arriving c.args.asked.now.fleet))
    (nights_waited c.args.asked.now.tables.now c.args.asked.now.fleet c.args.turn) (night_of_stay c.args.asked.now.tables.now c.args.asked.now.fleet c.args.turn)
    c.requires.since (omega (arith, c.if-aloft-asked.false, c.nights.ensures.value ∙ ap (nights_of c.args.asked.now.tables.now) c.flight.ensures.value))
    (omega (arith, c.nights_waited-waited.ensures.value, c.if-waited-eq0.false)) (sym c.is_maintained.ensures ∙ c.if-is_maintained.true)

pub returns-then-aloft-waited : goal.returns-then-aloft-waited
returns-then-aloft-waited c =
    too_many_stood c.args.asked.now.tables.now c.args.asked.now.days c.args.since (nights_of c.args.asked.now.tables.now (leg_on c.args.turn.arriving c.args.asked.now.fleet))
    (nights_waited c.args.asked.now.tables.now c.args.asked.now.fleet c.args.turn) (night_of_stay c.args.asked.now.tables.now c.args.asked.now.fleet c.args.turn)
    c.requires.since (omega (arith, c.if-aloft-asked.false, c.nights.ensures.value ∙ ap (nights_of c.args.asked.now.tables.now) c.flight.ensures.value))
    (sym c.is_maintained.ensures ∙ c.if-is_maintained.false) (omega (arith, c.if-aloft-waited.true, c.nights_waited-waited.ensures.value, c.nights.ensures.value ∙ ap (nights_of c.args.asked.now.tables.now) c.flight.ensures.value))

pub returns : goal.returns
returns c =
    stood c.args.asked.now.tables.now c.args.asked.now.days c.args.since (nights_of c.args.asked.now.tables.now (leg_on c.args.turn.arriving c.args.asked.now.fleet))
    (nights_waited c.args.asked.now.tables.now c.args.asked.now.fleet c.args.turn) (night_of_stay c.args.asked.now.tables.now c.args.asked.now.fleet c.args.turn)
    c.requires.since (omega (arith, c.if-aloft-asked.false, c.nights.ensures.value ∙ ap (nights_of c.args.asked.now.tables.now) c.flight.ensures.value))
    (c.args.since + c.nights.result + c.nights_waited-waited.result) (sym c.is_maintained.ensures ∙ c.if-is_maintained.false)
    (omega (arith, c.if-aloft-waited.false)) (omega (arith, c.nights_waited-waited.ensures.value, c.nights.ensures.value ∙ ap (nights_of c.args.asked.now.tables.now) c.flight.ensures.value))
