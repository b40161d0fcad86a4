-- Which assignments are legal, and what they cost.
use Rattle.std.specs.Prelude.{◌≡◌, ℕ, ◌*◌, ◌<◌, ◌≤◌, ◌==◌, nat_lt, if◌then◌else◌, List, length, Option, None, Some, IsSome, unwrap_or, ℤ, pos, ◌+ℤ◌}
use Rattle.sums.specs.Below.{sum_below_ℤ}
use Rattle.fleet_model.specs.declared.parts.Pair.{Pair}
use Rattle.fleet_model.specs.declared.tables.Tables.{Tables}
use Rattle.fleet_model.specs.Schedule.{choices_in, days_in, fleet_by, fleet_of, fleets_in, left_out, leg_of, legs_in, parking_of, shift_by, stations_in}
use Rattle.fleet_model.specs.Costs.{cost_in}
use Rattle.fleet_model.specs.Counts.{Weights, choice_at, pair_at, weights_of}
use Rattle.fleet_model.specs.Use.{IsBalanced, parked, used_of}

-- a cost with what is added to it
abbrev pub raised : Option ℤ → ℤ → Option ℤ
raised None more = None
raised (Some cost) more = Some (cost +ℤ more)

-- what it costs to fly a pair: what the fleet costs on the leg, and what the time costs beside it
abbrev pub flown_cost : Tables → Pair → Option ℤ
flown_cost t p = raised (cost_in t.costs p.leg (fleet_by t p)) (shift_by t p).extra

-- what a pair costs, where it may be taken: to be flown, or to be left out
unfoldable pub cost_of : Tables → Pair → Option ℤ
cost_of t p = if nat_lt (fleet_by t p) (fleets_in t) then flown_cost t p else if p.choice == left_out t p.leg then (leg_of t p.leg).skip else None

-- a list of choices, one a leg
pub record IsAssignment (t : Tables) (a : List ℕ) : Type 0 where
  pub each_leg : length a ≡ legs_in t
  pub known : (l : ℕ) → l < legs_in t → choice_at a l < choices_in t l

-- each leg may be flown, or left out, as its choice says
pub record IsAllowed (t : Tables) (a : List ℕ) : Type 0 where
  pub each : (l : ℕ) → l < legs_in t → IsSome (cost_of t (pair_at a l))

-- no fleet uses more aircraft than it has
pub record IsWithinFleets (t : Tables) (a : List ℕ) : Type 0 where
  pub each : (f : ℕ) → f < fleets_in t → used_of t (weights_of a) f ≤ (fleet_of t f).aircraft

-- at each station with a limit no more aircraft stand at the end of a day, so many parts each
pub record HasRoom (t : Tables) (scale : ℕ) (w : Weights) : Type 0 where
  pub each : (s d limit : ℕ) → s < stations_in t → 0 < d → d ≤ days_in t → parking_of t s ≡ Some limit → parked t w s d ≤ scale * limit

pub record IsLegal (t : Tables) (a : List ℕ) : Type 0 where
  pub assignment : IsAssignment t a
  pub allowed : IsAllowed t a
  pub balanced : IsBalanced t (weights_of a)
  pub within : IsWithinFleets t a
  pub room : HasRoom t 1 (weights_of a)

-- the cost of a leg by an assignment
abbrev pub leg_cost : Tables → List ℕ → ℕ → ℤ
leg_cost t a l = unwrap_or (cost_of t (pair_at a l)) (pos 0)

-- the costs of an assignment's pairs, added up
unfoldable pub total_cost : Tables → List ℕ → ℤ
total_cost t a = sum_below_ℤ (leg_cost t a) (legs_in t)
