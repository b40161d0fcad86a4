-- What is asked: a fleet by an assignment, pairs to be held, and days; and what is known of its turns.
use Rattle.std.specs.Prelude.{◌≡◌, ℕ, ◌<◌, ◌≤◌, ◌==◌, ◌&&◌, Bool, true, if◌then◌else◌, List, [], length, slice_index, slice_index_or}
use Rattle.std.specs.List.{filter}
use Rattle.fleet_model.specs.declared.parts.Connection.{Connection}
use Rattle.fleet_model.specs.declared.tables.Tables.{Tables}
use Rattle.fleet_model.specs.Counts.{choice_at}
use Rattle.fleet_model.specs.Legal.{IsAssignment}
use Rattle.fleet_model.specs.Schedule.{fleets_in, legs_in, period_of, stations_in}
use Rattle.fleet_model.specs.Plain.{IsPlain}
use Rattle.lines_of_flying.specs.ground_turns.Laws.{AreBareMinutes}
use Rattle.lines_of_flying.specs.ground_turns.Maps.{turn_after}
use Rattle.lines_of_flying.specs.ground_turns.Segments.{EndAt, span_of}
use Rattle.euler_rotation.specs.declared.asked.Asked.{Asked}
use Rattle.euler_rotation.specs.declared.clean.CleanTurns.{CleanTurns}
use Rattle.euler_rotation.specs.Prefixes.{is_clean, may_turn, meets}

pub record IsAsked (asked : Asked) : Type 0 where
  pub plain : IsPlain asked.tables.now
  pub plan : IsAssignment asked.tables.now asked.plan.now
  pub fleet : asked.fleet < fleets_in asked.tables.now
  pub some_days : 0 < asked.days
  pub few_days : asked.days ≤ 30

-- segments that end with the minutes at whose end none of the fleet's aircraft stands at a station
pub record AreSegments (t : Tables) (a : List ℕ) (f s : ℕ) (numbers : List ℕ) : Type 0 where
  pub minutes : List ℕ
  pub bare : AreBareMinutes t a f s minutes
  pub period : span_of numbers ≡ period_of t
  pub ends : EndAt minutes numbers

-- those of each station
pub record AreAllSegments (t : Tables) (a : List ℕ) (f : ℕ) (all : List (List ℕ)) : Type 0 where
  pub each_station : length all ≡ stations_in t
  pub each : (s : ℕ) → s < stations_in t → AreSegments t a f s (slice_index_or all s [])

pub record TellClean (clean : CleanTurns) : Type 0 where
  pub asked : IsAsked clean.asked.now
  pub segments : AreAllSegments clean.asked.now.tables.now clean.asked.now.plan.now clean.asked.now.fleet clean.segments.items

-- legs of the tables
pub record AreKnown (t : Tables) (legs : List ℕ) : Type 0 where
  pub each : (k : ℕ) → k < length legs → slice_index legs k < legs_in t

-- the legs that may follow a leg of the fleet, in the search's order
abbrev pub followers_of : Tables → List ℕ → ℕ → List Connection → List ℕ → ℕ → List ℕ
followers_of t a f pairs order l = if choice_at a l == f then filter (may_turn t a f pairs l) order else []

-- a clean turn at a station
abbrev pub is_met : Tables → List ℕ → ℕ → Connection → Bool
is_met t a f turn = meets t turn && is_clean t a f turn

-- of a tour's first turns each is one
pub record AreMet (t : Tables) (a : List ℕ) (f : ℕ) (legs : List ℕ) (n : ℕ) : Type 0 where
  pub each : (k : ℕ) → k < n → is_met t a f (turn_after legs k) ≡ true
