-- Tours that come to maintenance often enough.
use Rattle.std.specs.Prelude.{◌≡◌, ℕ, ◌+◌, ◌-◌, ◌*◌, ◌%◌, ◌<◌, ◌≤◌, ◌==◌, List, length, slice_index}
use Rattle.sums.specs.Below.{count_below, sum_below}
use Rattle.sums.specs.Places.{list_below}
use Rattle.fleet_model.specs.declared.parts.Connection.{Connection}
use Rattle.fleet_model.specs.declared.tables.Tables.{Tables}
use Rattle.fleet_model.specs.Counts.{weights_of}
use Rattle.fleet_model.specs.Schedule.{days_in, leg_on, legs_in, stations_in}
use Rattle.fleet_model.specs.Use.{used_of}
use Rattle.lines_of_flying.specs.ground_turns.Laws.{maintained_at}
use Rattle.lines_of_flying.specs.ground_turns.Maps.{Holds, IsTour, turns_round}
use Rattle.lines_of_flying.specs.ground_turns.Nights.{IsKeptFor, nights_of_tour}
use Rattle.lines_of_flying.specs.Lines.{BeginsAfterStart, periods_after}

-- a tour that holds the pairs
pub record IsTourWith (t : Tables) (a : List ℕ) (f : ℕ) (pairs : List Connection) (legs : List ℕ) : Type 0 where
  pub tour : IsTour t a f legs
  pub holds : Holds (turns_round legs) pairs

-- one that comes to maintenance within so many days, again and again
pub record IsKeptTour (t : Tables) (a : List ℕ) (f : ℕ) (pairs : List Connection) (days : ℕ) (legs : List ℕ) : Type 0 where
  pub tour : IsTour t a f legs
  pub holds : Holds (turns_round legs) pairs
  pub kept : IsKeptFor t (nights_of_tour t f legs) days

pub record HasTour (t : Tables) (a : List ℕ) (f : ℕ) (pairs : List Connection) : Type 0 where
  pub legs : List ℕ
  pub tour : IsTourWith t a f pairs legs

pub record HasKeptTour (t : Tables) (a : List ℕ) (f : ℕ) (pairs : List Connection) (days : ℕ) : Type 0 where
  pub legs : List ℕ
  pub tour : IsKeptTour t a f pairs days legs

-- how often a leg stands in a list
abbrev pub times_in : List ℕ → ℕ → ℕ
times_in legs l = count_below (λ k. slice_index legs k == l) (length legs)

-- the legs of the fleet, each once
pub record IsOrder (t : Tables) (a : List ℕ) (f : ℕ) (order : List ℕ) : Type 0 where
  pub known : (k : ℕ) → k < length order → slice_index order k < legs_in t
  pub once : (l : ℕ) → l < legs_in t → times_in order l ≡ weights_of a (leg_on l f)

-- the period starts before the leg at a place of a tour: from the leg before it
abbrev pub place_before : List ℕ → ℕ → ℕ
place_before legs k = (k + (length legs - 1)) % length legs

abbrev pub periods_before : Tables → ℕ → List ℕ → ℕ → ℕ
periods_before t f legs k = periods_after t f legs (place_before legs k)

-- the tour begins with the least leg that has a period's start before it
pub record BeginsLeast (t : Tables) (f : ℕ) (legs : List ℕ) : Type 0 where
  pub begins : BeginsAfterStart t f legs
  pub least : (k : ℕ) → k < length legs → 0 < periods_before t f legs k → slice_index legs 0 ≤ slice_index legs k

-- the nights at maintenance stations, of each fitting map: what stands there at the ends of the period's days
abbrev pub nights_maintained : Tables → List ℕ → ℕ → ℕ
nights_maintained t a f = sum_below (maintained_at t a f) (stations_in t)

-- the nights of each fitting map
abbrev pub nights_used : Tables → List ℕ → ℕ → ℕ
nights_used t a f = used_of t (weights_of a) f * days_in t

-- the same tour from another of its places on
abbrev pub turned_tour : ℕ → List ℕ → List ℕ
turned_tour r legs = list_below (λ k. slice_index legs ((k + r) % length legs)) (length legs)
