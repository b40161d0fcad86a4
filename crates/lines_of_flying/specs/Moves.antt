-- Free landings and free departures of a fleet, said at once.
use Rattle.std.specs.Prelude.{ℕ, Bool, ◌==◌, ◌&&◌, nat_le}
use Rattle.fleet_model.specs.Counts.{choice_at}
use Rattle.fleet_model.specs.Schedule.{leg_of, leg_on}
use Rattle.fleet_model.specs.Times.{departure, ready_minute}
use Rattle.lines_of_flying.specs.ground_turns.FirstOut.{is_before}
use Rattle.lines_of_flying.specs.ground_turns.Maps.{arrivals_of, departures_of}
use Rattle.lines_of_flying.specs.Grounds.{free_departed_by, landed_by, place_of_departure, place_of_landing}
use Rattle.lines_of_flying.specs.declared.ground.Ground.{Ground}
use Rattle.lines_of_flying.specs.declared.ground.Movement.{Movement}
use Rattle.lines_of_flying.specs.declared.ground.Movement.TheVariants as movement

-- where a leg lands or departs, when its aircraft is ready or departs, and how many given pairs have it so
abbrev pub moves_at : Ground → Movement → ℕ → ℕ
moves_at g movement.Landing l = (leg_of g.tables.now l).to
moves_at g movement.Departure l = (leg_of g.tables.now l).from

abbrev pub minute_of : Ground → Movement → ℕ → ℕ
minute_of g movement.Landing l = ready_minute g.tables.now (leg_on l g.fleet)
minute_of g movement.Departure l = departure g.tables.now (leg_on l g.fleet)

abbrev pub pairs_with : Ground → Movement → ℕ → ℕ
pairs_with g movement.Landing = arrivals_of g.pairs.now
pairs_with g movement.Departure = departures_of g.pairs.now

-- the fleet's leg moves so at the station, and no given pair has it so
abbrev pub moves_free : Ground → Movement → ℕ → ℕ → Bool
moves_free g move s l = (choice_at g.plan.now l == g.fleet) && (moves_at g move l == s) && (pairs_with g move l == 0)

-- another leg moves so where a leg does, and comes before it
abbrev pub is_ahead : Ground → Movement → ℕ → ℕ → Bool
is_ahead g move l q = moves_free g move (moves_at g move l) q && is_before (minute_of g move q) q (minute_of g move l) l

-- it has moved so by the end of a minute
abbrev pub has_moved : Ground → Movement → ℕ → ℕ → ℕ → Bool
has_moved g move s m l = moves_free g move s l && nat_le (minute_of g move l) m

-- how many come before a leg where it moves so, and how many have by the end of a minute
abbrev pub place_of : Ground → Movement → ℕ → ℕ
place_of g movement.Landing = place_of_landing g
place_of g movement.Departure = place_of_departure g

abbrev pub moved_by : Ground → Movement → ℕ → ℕ → ℕ
moved_by g movement.Landing = landed_by g
moved_by g movement.Departure = free_departed_by g
