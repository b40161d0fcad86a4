-- The laws of islands, as statements.
use Rattle.std.specs.Prelude.{◌≡◌, ℕ, ◌+◌, ◌<◌, ◌≤◌, true, nat_le, IsSome, if◌then◌else◌, List}
use Rattle.sums.specs.Below.{sum_below}
use Rattle.fleet_model.specs.declared.parts.Pair.{Pair}
use Rattle.fleet_model.specs.declared.tables.Tables.{Tables}
use Rattle.fleet_model.specs.Counts.{Weights, weights_of}
use Rattle.fleet_model.specs.Kept.{Domains}
use Rattle.fleet_model.specs.Legal.{IsLegal, cost_of}
use Rattle.fleet_model.specs.Mixed.{IsMixedPlan}
use Rattle.fleet_model.specs.Schedule.{IsFlown, fleets_in, leg_of, leg_on, legs_in, period_of, stations_in}
use Rattle.fleet_model.specs.Times.{departure, laps_of, ready_minute}
use Rattle.fleet_model.specs.Use.{stand_of}
use Rattle.fleet_model.specs.Whole.{KeepAllowed}
use Rattle.node_aggregate.specs.island_cut.Islands.{has_islands, is_idle}
use Rattle.node_aggregate.specs.island_cut.Spare.{aircraft_in}

-- an idle minute of a station
pub record IsIdle (t : Tables) (s m : ℕ) : Type 0 where
  pub station : s < stations_in t
  pub minute : m < period_of t
  pub idle : is_idle t s m ≡ true

-- in each mixed plan of pairs that may be flown, none of any fleet's aircraft stands at a station at its idle minutes
abbrev pub IdleIsEmpty : Type 0
IdleIsEmpty = (t : Tables) (keeps : Domains) (scale : ℕ) (w : Weights) → KeepAllowed t keeps → IsMixedPlan t keeps scale w
    → (f s m : ℕ) → f < fleets_in t → IsIdle t s m → stand_of t w f s m ≡ 0

-- so in each legal assignment
abbrev pub IdleIsEmptyInPlans : Type 0
IdleIsEmptyInPlans = (t : Tables) (a : List ℕ) → IsLegal t a → (f s m : ℕ) → f < fleets_in t → IsIdle t s m → stand_of t (weights_of a) f s m ≡ 0

-- where there are islands, each station has an idle minute
abbrev pub SomeIdle : Type 0
SomeIdle = (t : Tables) → has_islands t ≡ true → (s : ℕ) → s < stations_in t → (m : ℕ) × IsIdle t s m

-- an idle minute of each station
pub record AreIdleAt (t : Tables) (at : ℕ → ℕ) : Type 0 where
  pub islands : has_islands t ≡ true
  pub each : (s : ℕ) → s < stations_in t → IsIdle t s (at s)

-- for each leg a choice by which a fleet may fly it
pub record AreChoicesFor (t : Tables) (choices : ℕ → ℕ) : Type 0 where
  pub known : (l : ℕ) → l < legs_in t → IsFlown t (leg_on l (choices l))
  pub allowed : (l : ℕ) → l < legs_in t → IsSome (cost_of t (leg_on l (choices l)))

-- 1 where the pair's aircraft is ready by the minute of the station that it comes to
abbrev pub ready_by : Tables → (ℕ → ℕ) → Pair → ℕ
ready_by t at p = if nat_le (ready_minute t p) (at (leg_of t p.leg).to) then 1 else 0

-- 1 where the pair has left by the minute of the station that it leaves
abbrev pub left_by : Tables → (ℕ → ℕ) → Pair → ℕ
left_by t at p = if nat_le (departure t p) (at (leg_of t p.leg).from) then 1 else 0

-- The aircraft of all fleets, with the legs that are ready by the minute of the station they come to, are no more than the laps
-- and the legs that have left by the minute of the station they leave.
abbrev pub IsPaidBack : Tables → (ℕ → ℕ) → (ℕ → ℕ) → Type 0
IsPaidBack t at choices = aircraft_in t + sum_below (λ l. ready_by t at (leg_on l (choices l))) (legs_in t)
    ≤ sum_below (λ l. laps_of t (leg_on l (choices l))) (legs_in t) + sum_below (λ l. left_by t at (leg_on l (choices l))) (legs_in t)

-- at idle minutes they are, whichever fleets fly the legs
abbrev pub PaybackLaw : Type 0
PaybackLaw = (t : Tables) (at choices : ℕ → ℕ) → AreIdleAt t at → AreChoicesFor t choices → IsPaidBack t at choices
