use Rattle.std.proofs.Common.{◌≡◌, rules}
use Rattle.fleet_model.specs.Schedule.{leg_on}
use Rattle.fleet_model.specs.Times.{nights_of}
use Rattle.lines_of_flying.specs.ground_turns.Nights.{can_maintain, night_of_stay}
use Rattle.lines_of_flying.specs.ground_turns.Turns.{nights_waited}
use Rattle.tail_dates.proofs.Nights.{turn_nights_of}
use Rattle.tail_dates.proofs.reaches.push_nights.Goals as goal

pub returns : goal.returns
returns c =
    let aloft : c.nights-aloft.result ≡ nights_of c.args.tables.now (leg_on c.turn_after-turn.result.arriving c.args.fleet) = search rules in
    let waited : c.nights_waited.result ≡ nights_waited c.args.tables.now c.args.fleet c.turn_after-turn.result = search rules in
    let flag : c.is_maintained.result ≡ can_maintain c.args.tables.now (night_of_stay c.args.tables.now c.args.fleet c.turn_after-turn.result) = search rules in
    turn_nights_of c.args.tables.now c.args.fleet c.args.tour.now c.args.place c.nights-aloft.result c.nights_waited.result c.turn_after-turn.result c.is_maintained.result
    c.args.nights.now.items c.push_same.new.list.items c.push_same-2.new.list.items c.push_same-2.result
    c.turn_after-turn.ensures aloft waited flag c.in_ok-push_same.ensures c.push_same-2.ensures
