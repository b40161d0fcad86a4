-- Successor maps, which send each leg of a fleet to the one that its aircraft flies next, and tours.
use Rattle.std.specs.Prelude.{◌≡◌, ◌≢◌, ℕ, zero, suc, ◌+◌, ◌%◌, ◌<◌, Bool, ◌==◌, ◌&&◌, if◌then◌else◌, List, [], ◌∷◌, ◌++◌, length, slice_index, slice_index_or}
use Rattle.sums.specs.Below.{count_below}
use Rattle.sums.specs.Places.{list_below}
use Rattle.fleet_model.specs.declared.parts.Connection.{Connection}
use Rattle.fleet_model.specs.declared.tables.Tables.{Tables}
use Rattle.fleet_model.specs.Counts.{choice_at, weights_of}
use Rattle.fleet_model.specs.Schedule.{leg_on, legs_in}
use Rattle.fleet_model.specs.Use.{laps_flown, used_of}
use Rattle.fleet_model.specs.Plain.{IsPlain}
use Rattle.fleet_model.specs.Times.{laps_of}
use Rattle.lines_of_flying.specs.ground_turns.Turns.{IsClean, IsTurn, crosses, station_at, waits_at}

-- the turn at a place of a list
abbrev pub no_turn : Connection
no_turn = record { arriving = 0; departing = 0 }

abbrev pub turn_at : List Connection → ℕ → Connection
turn_at turns k = slice_index_or turns k no_turn

-- in how many turns a leg arrives, and in how many it departs
abbrev pub arrivals_of : List Connection → ℕ → ℕ
arrivals_of turns l = count_below (λ k. (turn_at turns k).arriving == l) (length turns)

abbrev pub departures_of : List Connection → ℕ → ℕ
departures_of turns l = count_below (λ k. (turn_at turns k).departing == l) (length turns)

-- on plain tables, turns in which each of the fleet's legs arrives once and departs once
pub record IsSuccessorMap (t : Tables) (a : List ℕ) (f : ℕ) (turns : List Connection) : Type 0 where
  pub plain : IsPlain t
  pub each : (k : ℕ) → k < length turns → IsTurn t a f (turn_at turns k)
  pub arrives : (l : ℕ) → l < legs_in t → arrivals_of turns l ≡ weights_of a (leg_on l f)
  pub departs : (l : ℕ) → l < legs_in t → departures_of turns l ≡ weights_of a (leg_on l f)

-- the turns of the fleet's first legs, in the order of those that arrive, where for each of them the next is given
abbrev pub turn_to_next : (ℕ → ℕ) → ℕ → Connection
turn_to_next next l = record { arriving = l; departing = next l }

abbrev pub turns_by : List ℕ → ℕ → (ℕ → ℕ) → ℕ → List Connection
turns_by a f next zero = []
turns_by a f next (suc n) = turns_by a f next n ++ (if choice_at a n == f then turn_to_next next n ∷ [] else [])

-- the next of each of the fleet's legs makes a turn with it, and no two have the same
pub record IsNext (t : Tables) (a : List ℕ) (f : ℕ) (next : ℕ → ℕ) : Type 0 where
  pub turn : (l : ℕ) → l < legs_in t → choice_at a l ≡ f → IsTurn t a f (turn_to_next next l)
  pub once : (l k : ℕ) → l < legs_in t → k < legs_in t → choice_at a l ≡ f → choice_at a k ≡ f → next l ≡ next k → l ≡ k

-- all turns are clean
pub record AreClean (t : Tables) (a : List ℕ) (f : ℕ) (turns : List Connection) : Type 0 where
  pub each : (k : ℕ) → k < length turns → IsClean t a f (turn_at turns k)

-- how many turns cross the period's start, and how many of those at a station
abbrev pub crossings_of : Tables → ℕ → List Connection → ℕ
crossings_of t f turns = count_below (λ k. crosses t f (turn_at turns k)) (length turns)

abbrev pub crosses_there : Tables → ℕ → List Connection → ℕ → ℕ → Bool
crosses_there t f turns s k = (station_at t (turn_at turns k) == s) && crosses t f (turn_at turns k)

abbrev pub crossings_at : Tables → ℕ → List Connection → ℕ → ℕ
crossings_at t f turns s = count_below (crosses_there t f turns s) (length turns)

-- the period starts in a turn: those in the flight that arrives, and that in the wait
abbrev pub periods_in_turn : Tables → ℕ → Connection → ℕ
periods_in_turn t f turn = laps_of t (leg_on turn.arriving f) + (if crosses t f turn then 1 else 0)

-- how many aircraft wait at a station at the end of a minute
abbrev pub waits_there : Tables → ℕ → List Connection → ℕ → ℕ → ℕ → Bool
waits_there t f turns s m k = (station_at t (turn_at turns k) == s) && waits_at t f (turn_at turns k) m

abbrev pub waiting_at : Tables → ℕ → List Connection → ℕ → ℕ → ℕ
waiting_at t f turns s m = count_below (waits_there t f turns s m) (length turns)

-- the periods that a map takes: the period starts in its legs, and those in its waits
abbrev pub periods_of : Tables → List ℕ → ℕ → List Connection → ℕ
periods_of t a f turns = laps_flown t (weights_of a) f + crossings_of t f turns

-- a successor map that takes as many periods as the fleet uses aircraft
pub record IsFitting (t : Tables) (a : List ℕ) (f : ℕ) (turns : List Connection) : Type 0 where
  pub map : IsSuccessorMap t a f turns
  pub fits : periods_of t a f turns ≡ used_of t (weights_of a) f

-- a map has a turn, or each of some pairs
pub record HasTurn (turns : List Connection) (pair : Connection) : Type 0 where
  pub place : ℕ
  pub within : place < length turns
  pub there : turn_at turns place ≡ pair

pub record Holds (turns pairs : List Connection) : Type 0 where
  pub each : (k : ℕ) → k < length pairs → HasTurn turns (turn_at pairs k)

-- some fitting map holds the pairs
pub record IsHeldByMap (t : Tables) (a : List ℕ) (f : ℕ) (pairs : List Connection) : Type 0 where
  pub turns : List Connection
  pub fitting : IsFitting t a f turns
  pub holds : Holds turns pairs

-- two turns of a list with their departures exchanged, and all others as they were
abbrev pub exchanged : Connection → Connection → Connection
exchanged turn other = record { arriving = turn.arriving; departing = other.departing }

pub record AreExchanged (old new : List Connection) (i j : ℕ) : Type 0 where
  pub same_length : length new ≡ length old
  pub first : turn_at new i ≡ exchanged (turn_at old i) (turn_at old j)
  pub second : turn_at new j ≡ exchanged (turn_at old j) (turn_at old i)
  pub others : (k : ℕ) → k < length old → k ≢ i → k ≢ j → turn_at new k ≡ turn_at old k

-- the turns from each leg of a list to the next, and from the last to the first
abbrev pub turn_after : List ℕ → ℕ → Connection
turn_after legs k = record { arriving = slice_index legs k; departing = slice_index legs (suc k % length legs) }

abbrev pub turns_round : List ℕ → List Connection
turns_round legs = list_below (turn_after legs) (length legs)

-- a fitting map that is one cycle, as the list of its legs
pub record IsTour (t : Tables) (a : List ℕ) (f : ℕ) (legs : List ℕ) : Type 0 where
  pub some : 0 < length legs
  pub fitting : IsFitting t a f (turns_round legs)
