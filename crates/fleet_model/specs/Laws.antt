-- The laws of counts, need and use, and of kept pairs, as statements.
use Rattle.std.specs.Prelude.{◌≡◌, ◌≢◌, ℕ, ◌+◌, ◌<◌, ◌≤◌, List, Bool, true, ◌==◌, ◌&&◌, if◌then◌else◌}
use Rattle.sums.specs.Below.{count_below, max_below, sum_below}
use Rattle.fleet_model.specs.declared.parts.Pair.{Pair}
use Rattle.fleet_model.specs.declared.tables.Tables.{Tables}
use Rattle.fleet_model.specs.Counts.{Weights, weights_of, pair_at, has_left, has_come, departed, arrived}
use Rattle.fleet_model.specs.Schedule.{IsPair, days_in, departures_in, fleet_by, fleets_in, leg_at, leg_of, legs_in, pair_on, period_of, stations_in}
use Rattle.fleet_model.specs.Kept.{Domains, IsBare, IsKeptAssignment, IsSole, all_pairs}
use Rattle.fleet_model.specs.Legal.{IsAllowed, IsAssignment}
use Rattle.fleet_model.specs.Times.{departure, laps_of, nights_of}
use Rattle.fleet_model.specs.Use.{excess, need_of, used_of}
use Rattle.fleet_model.specs.Aloft.{under_way, on_the_ground}

-- with this stock at the day start a fleet never lacks an aircraft at the station
pub record Suffices (t : Tables) (w : Weights) (f s stock : ℕ) : Type 0 where
  pub each : (m : ℕ) → m < period_of t → departed t w f s m ≤ stock + arrived t w f s m

-- need suffices
abbrev pub NeedSuffices : Type 0
NeedSuffices = (t : Tables) (w : Weights) (f s : ℕ) → Suffices t w f s (need_of t w f s)

-- a stock that suffices is at least need
abbrev pub NeedIsLeast : Type 0
NeedIsLeast = (t : Tables) (w : Weights) (f s stock : ℕ) → Suffices t w f s stock → need_of t w f s ≤ stock

-- at each minute the flights of a fleet under way and its aircraft on the ground sum to those that it uses
abbrev pub UseIsConstant : Type 0
UseIsConstant = (t : Tables) (w : Weights) (f m : ℕ) → m < period_of t → under_way t w f m + on_the_ground t w f m ≡ used_of t w f

-- where the period is one day, laps are nights
abbrev pub LapsAreNights : Type 0
LapsAreNights = (t : Tables) (p : Pair) → days_in t ≡ 1 → IsPair t p → laps_of t p ≡ nights_of t p

-- the nights of a leg, where the fleet flies it
abbrev pub night_of_fleet : Tables → List ℕ → ℕ → ℕ → ℕ
night_of_fleet t a f l = if fleet_by t (pair_at a l) == f then nights_of t (pair_at a l) else 0

-- where the period is one day, a fleet uses by an assignment the aircraft that it needs at all stations and those of its
-- legs' nights
abbrev pub UseIsNeedAndNights : Type 0
UseIsNeedAndNights = (t : Tables) (a : List ℕ) (f : ℕ) → days_in t ≡ 1 → IsAssignment t a → f < fleets_in t
    → used_of t (weights_of a) f ≡ sum_below (need_of t (weights_of a) f) (stations_in t) + sum_below (night_of_fleet t a f) (legs_in t)

-- by the weights of an assignment, departures and arrivals are numbers of its legs
pub record CountsAreLegs (t : Tables) (a : List ℕ) (f s m : ℕ) : Type 0 where
  pub departures : departed t (weights_of a) f s m ≡ count_below (λ l. (fleet_by t (pair_at a l) == f) && has_left t (pair_at a l) s m) (legs_in t)
  pub arrivals : arrived t (weights_of a) f s m ≡ count_below (λ l. (fleet_by t (pair_at a l) == f) && has_come t (pair_at a l) s m) (legs_in t)

-- the test passes at each departure that the fleet flies from the station
pub record PassesDepartures (t : Tables) (w : Weights) (f s : ℕ) (test : ℕ → Bool) : Type 0 where
  pub each : (d : ℕ) → d < departures_in t → (leg_of t (leg_at t d)).from ≡ s → w (pair_on t d f) ≢ 0 → test d ≡ true

-- the excess at a departure, where the test passes
abbrev pub excess_at_departure : Tables → Weights → ℕ → ℕ → (ℕ → Bool) → ℕ → ℕ
excess_at_departure t w f s test d = if test d then excess t w f s (departure t (pair_on t d f)) else 0

-- need is the greatest excess at the departures of the fleet from the station
abbrev pub NeedIsAtDepartures : Type 0
NeedIsAtDepartures = (t : Tables) (w : Weights) (f s : ℕ) (test : ℕ → Bool) → PassesDepartures t w f s test
    → need_of t w f s ≡ max_below (excess_at_departure t w f s test) (departures_in t)

-- an assignment that is allowed, as each legal one is, is of kept pairs where all are kept
abbrev pub AllowedIsKept : Type 0
AllowedIsKept = (t : Tables) (a : List ℕ) → IsAssignment t a → IsAllowed t a → IsKeptAssignment t (all_pairs t) a

-- an assignment of kept pairs, where all are kept, is allowed
abbrev pub KeptIsAllowed : Type 0
KeptIsAllowed = (t : Tables) (a : List ℕ) → IsKeptAssignment t (all_pairs t) a → IsAllowed t a

-- where a leg is bare, no assignment is of kept pairs
abbrev pub BareHasNone : Type 0
BareHasNone = (t : Tables) (keeps : Domains) (leg : ℕ) (a : List ℕ) → IsBare t keeps leg → ¬ (IsKeptAssignment t keeps a)

-- where each leg keeps one choice, one assignment at most is of kept pairs
abbrev pub SoleIsOne : Type 0
SoleIsOne = (t : Tables) (keeps : Domains) (a b : List ℕ) → IsSole t keeps → IsKeptAssignment t keeps a → IsKeptAssignment t keeps b → a ≡ b
