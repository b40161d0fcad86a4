-- The verdict on an assignment: legal with its cost, or the first reason why it is not.
use Rattle.std.specs.Prelude.{◌≡◌, ◌≢◌, ℕ, ◌<◌, ◌≤◌, List, None, Some, IsSome}
use Rattle.fleet_model.specs.declared.tables.Tables.{Tables}
use Rattle.fleet_model.specs.Counts.{arrived, departed, pair_at, weights_of}
use Rattle.fleet_model.specs.Legal.{IsAllowed, IsLegal, IsWithinFleets, cost_of, total_cost}
use Rattle.fleet_model.specs.Schedule.{days_in, fleet_of, fleets_in, last_of, legs_in, parking_of, stations_in}
use Rattle.fleet_model.specs.Use.{IsBalanced, parked, used_of}
use Rattle.plan_judge.specs.declared.verdicts.Verdict.{Verdict}
use Rattle.plan_judge.specs.declared.verdicts.Verdict.TheVariants as verdict

-- the first leg that its fleet may not fly
pub record FirstNotAllowed (t : Tables) (a : List ℕ) (leg : ℕ) : Type 0 where
  pub within : leg < legs_in t
  pub refused : cost_of t (pair_at a leg) ≡ None
  pub first : (l : ℕ) → l < leg → IsSome (cost_of t (pair_at a l))

-- at the end of the period as many aircraft of the fleet have come to the station as have left it
abbrev pub Balances : Tables → List ℕ → ℕ → ℕ → Type 0
Balances t a f s = arrived t (weights_of a) f s (last_of t) ≡ departed t (weights_of a) f s (last_of t)

-- the first fleet, and there the first station, that does not balance, with the aircraft that come and leave
pub record FirstUnbalanced (t : Tables) (a : List ℕ) (fleet station came left : ℕ) : Type 0 where
  pub fleet_within : fleet < fleets_in t
  pub station_within : station < stations_in t
  pub came_there : came ≡ arrived t (weights_of a) fleet station (last_of t)
  pub left_there : left ≡ departed t (weights_of a) fleet station (last_of t)
  pub differ : came ≢ left
  pub first_fleet : (f s : ℕ) → f < fleet → s < stations_in t → Balances t a f s
  pub first_station : (s : ℕ) → s < station → Balances t a fleet s

-- the first fleet that uses more aircraft than it has
pub record FirstTooMany (t : Tables) (a : List ℕ) (fleet used has : ℕ) : Type 0 where
  pub within : fleet < fleets_in t
  pub uses : used ≡ used_of t (weights_of a) fleet
  pub owns : has ≡ (fleet_of t fleet).aircraft
  pub too_many : has < used
  pub first : (f : ℕ) → f < fleet → used_of t (weights_of a) f ≤ (fleet_of t f).aircraft

-- at the end of the day no more aircraft stand at the station than may
abbrev pub HasRoomOn : Tables → List ℕ → ℕ → ℕ → Type 0
HasRoomOn t a s d = (limit : ℕ) → parking_of t s ≡ Some limit → parked t (weights_of a) s d ≤ limit

-- the first station, and there the first day, at whose end more aircraft stand than may
pub record FirstCrowded (t : Tables) (a : List ℕ) (station day stands cap : ℕ) : Type 0 where
  pub within : station < stations_in t
  pub some : 0 < day
  pub of_period : day ≤ days_in t
  pub limited : parking_of t station ≡ Some cap
  pub there : stands ≡ parked t (weights_of a) station day
  pub crowded : cap < stands
  pub first_station : (s d : ℕ) → s < station → 0 < d → d ≤ days_in t → HasRoomOn t a s d
  pub first_day : (d : ℕ) → 0 < d → d < day → HasRoomOn t a station d

-- the verdict on an assignment
abbrev pub IsVerdict : Tables → List ℕ → Verdict → Type 0
IsVerdict t a (verdict.NotAllowed leg) = FirstNotAllowed t a leg
IsVerdict t a (verdict.Unbalanced fleet station came left) = IsAllowed t a × FirstUnbalanced t a fleet station came left
IsVerdict t a (verdict.TooMany fleet used has) = IsAllowed t a × IsBalanced t (weights_of a) × FirstTooMany t a fleet used has
IsVerdict t a (verdict.Crowded station day stands cap) = IsAllowed t a × IsBalanced t (weights_of a) × IsWithinFleets t a × FirstCrowded t a station day stands cap
IsVerdict t a (verdict.Legal cost) = IsLegal t a × (cost ≡ total_cost t a)
