use Rattle.std.proofs.Common.{◌≡◌, ap, rules}
use Rattle.fleet_model.specs.Schedule.{leg_on}
use Rattle.fleet_model.specs.Times.{nights_of}
use Rattle.fleet_model.specs.declared.parts.Leg.{Leg}
use Rattle.lines_of_flying.specs.ground_turns.Turns.{nights_waited, station_at}
use Rattle.tail_dates.proofs.TourPlaces.{turn_places_of}
use Rattle.tail_dates.proofs.tour_places.push_turn.Goals as goal

pub returns : goal.returns
returns c =
    let aloft : c.nights-aloft.result ≡ nights_of c.args.tables.now (leg_on c.turn_after-turn.result.arriving c.args.fleet) = search rules in
    let waited : c.nights_waited-waited.result ≡ nights_waited c.args.tables.now c.args.fleet c.turn_after-turn.result = search rules in
    let lands : c.leg.result.now.to ≡ station_at c.args.tables.now c.turn_after-turn.result = ap (λ (leg : Leg). leg.to) c.leg.ensures.value in
    turn_places_of c.args.tables.now c.args.fleet c.args.tour.now c.args.place c.nights-aloft.result c.nights_waited-waited.result c.leg.result.now.to c.turn_after-turn.result
    c.args.places.now.items c.push_same.new.list.items c.push_same-2.new.list.items c.push_same-2.result
    c.turn_after-turn.ensures aloft waited lands c.in_ok-push_same.ensures c.push_same-2.ensures
