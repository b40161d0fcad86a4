-- What is looked up again and again of a fleet's aircraft on the ground beside given pairs.
use Rattle.std.specs.Prelude.{◌≡◌, ℕ, ◌<◌, ◌≤◌, ◌==◌, Bool, false, List, length, slice_index, slice_index_or}
use Rattle.fleet_model.specs.Legal.{IsAssignment}
use Rattle.fleet_model.specs.Schedule.{fleets_in, leg_of, legs_in, stations_in}
use Rattle.lines_of_flying.specs.ground_turns.FirstOut.{departure_place, free_departed, free_landed, free_landings, free_need, is_free_departure, is_free_landing, landing_place}
use Rattle.lines_of_flying.specs.ground_turns.Maps.{arrivals_of, departures_of}
use Rattle.lines_of_flying.specs.declared.ground.Ground.{Ground}
use Rattle.lines_of_flying.specs.declared.places.Places.{Places}

-- a mark for each leg: none of the given pairs has it
pub record AreMarks (count : ℕ → ℕ) (legs : ℕ) (marks : List Bool) : Type 0 where
  pub each_leg : length marks ≡ legs
  pub each : (l : ℕ) → l < legs → slice_index_or marks l false ≡ (count l == 0)

-- the marks are those of the given pairs
pub record IsGround (g : Ground) : Type 0 where
  pub plan : IsAssignment g.tables.now g.plan.now
  pub fleet : g.fleet < fleets_in g.tables.now
  pub lands : AreMarks (arrivals_of g.pairs.now) (legs_in g.tables.now) g.lands.items
  pub departs : AreMarks (departures_of g.pairs.now) (legs_in g.tables.now) g.departs.items

-- the words of first in, first out for this fleet and these pairs
abbrev pub lands_free : Ground → ℕ → ℕ → Bool
lands_free g s l = is_free_landing g.tables.now g.plan.now g.fleet g.pairs.now s l

abbrev pub departs_free : Ground → ℕ → ℕ → Bool
departs_free g s l = is_free_departure g.tables.now g.plan.now g.fleet g.pairs.now s l

abbrev pub landings_at : Ground → ℕ → ℕ
landings_at g s = free_landings g.tables.now g.plan.now g.fleet g.pairs.now s

abbrev pub landed_by : Ground → ℕ → ℕ → ℕ
landed_by g s m = free_landed g.tables.now g.plan.now g.fleet g.pairs.now s m

abbrev pub free_departed_by : Ground → ℕ → ℕ → ℕ
free_departed_by g s m = free_departed g.tables.now g.plan.now g.fleet g.pairs.now s m

abbrev pub need_at : Ground → ℕ → ℕ
need_at g s = free_need g.tables.now g.plan.now g.fleet g.pairs.now s

-- the place of a leg among the free landings where it lands, and among the free departures where it departs
abbrev pub place_of_landing : Ground → ℕ → ℕ
place_of_landing g l = landing_place g.tables.now g.plan.now g.fleet g.pairs.now (leg_of g.tables.now l).to l

abbrev pub place_of_departure : Ground → ℕ → ℕ
place_of_departure g l = departure_place g.tables.now g.plan.now g.fleet g.pairs.now (leg_of g.tables.now l).from l

-- the places of departures by leg, and what is needed by station
pub record ArePlaces (g : Ground) (places : Places) : Type 0 where
  pub each_leg : length places.departures.items ≡ legs_in g.tables.now
  pub departures : (l : ℕ) → l < legs_in g.tables.now → slice_index places.departures.items l ≡ place_of_departure g l
  pub each_station : length places.needs.items ≡ stations_in g.tables.now
  pub needs : (s : ℕ) → s < stations_in g.tables.now → slice_index places.needs.items s ≡ need_at g s
  pub few : (s : ℕ) → s < stations_in g.tables.now → need_at g s ≤ legs_in g.tables.now
