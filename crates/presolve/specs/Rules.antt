-- When a pair cannot be flown, as far as the kept pairs tell: three rules, on counts of kept pairs at minutes.
use Rattle.std.specs.Prelude.{ℕ, ◌+◌, ◌-◌, Bool, ◌==◌, ◌&&◌, nat_le, nat_lt, if◌then◌else◌, Option, Some, None}
use Rattle.sums.specs.Below.{sum_below, count_below}
use Rattle.fleet_model.specs.Kept.{Domains, kept_on}
use Rattle.fleet_model.specs.Schedule.{choices_in, fleet_by, fleet_of, fleets_in, leg_of, leg_on, legs_in}
use Rattle.fleet_model.specs.Times.{departure, laps_of, ready_minute}
use Rattle.fleet_model.specs.declared.parts.Pair.{Pair}
use Rattle.fleet_model.specs.declared.tables.Tables.{Tables}
use Rattle.presolve.specs.declared.rule.Rule.{Rule}
use Rattle.presolve.specs.declared.rule.Rule.TheVariants as rule

-- the leg keeps the choice, and by it the fleet flies the leg
abbrev pub flies : Tables → Domains → ℕ → ℕ → ℕ → Bool
flies t keeps f l c = keeps (leg_on l c) && (fleet_by t (leg_on l c) == f)

-- how many kept pairs of a leg are of a fleet
unfoldable pub kept_flown_on : Tables → Domains → ℕ → ℕ → ℕ
kept_flown_on t keeps f l = count_below (flies t keeps f l) (choices_in t l)

-- .. where the leg lands at a station
abbrev pub landing : Tables → Domains → ℕ → ℕ → ℕ → ℕ
landing t keeps f s l = if (leg_of t l).to == s then kept_flown_on t keeps f l else 0

-- .. and where it departs from a station
abbrev pub departing : Tables → Domains → ℕ → ℕ → ℕ → ℕ
departing t keeps f s l = if (leg_of t l).from == s then kept_flown_on t keeps f l else 0

-- how many kept pairs of a fleet land at a station
unfoldable pub landings : Tables → Domains → ℕ → ℕ → ℕ
landings t keeps f s = sum_below (landing t keeps f s) (legs_in t)

-- how many kept pairs of a fleet depart from a station
unfoldable pub departures : Tables → Domains → ℕ → ℕ → ℕ
departures t keeps f s = sum_below (departing t keeps f s) (legs_in t)

-- 1 where a minute has come by the end of another, else 0
abbrev pub come_by : ℕ → ℕ → ℕ
come_by minute m = if nat_le minute m then 1 else 0

-- How many aircraft a pair that is flown every period keeps busy at the end of a minute: one for each period start
-- between departure and readiness, one more once it has departed, one fewer once it is ready. That is never below 0,
-- since a pair that is ready earlier in the period than it departs has passed a period start.
abbrev pub busy_at : Tables → Pair → ℕ → ℕ
busy_at t p m = laps_of t p + come_by (departure t p) m - come_by (ready_minute t p) m

-- the leg keeps the choice and no other, and by it the fleet flies the leg
abbrev pub flies_alone : Tables → Domains → ℕ → ℕ → ℕ → Bool
flies_alone t keeps f l c = (kept_on t keeps l == 1) && flies t keeps f l c

-- the aircraft of a fleet that a leg keeps busy at the end of a minute, where it keeps one pair, and the fleet flies that
unfoldable pub busy_alone : Tables → Domains → ℕ → ℕ → ℕ → ℕ
busy_alone t keeps f m l = sum_below (λ c. if flies_alone t keeps f l c then busy_at t (leg_on l c) m else 0) (choices_in t l)

-- the aircraft of a pair's fleet that a leg surely keeps busy at the end of a minute, where the pair is flown
abbrev pub busy_on : Tables → Domains → Pair → ℕ → ℕ → ℕ
busy_on t keeps p m l = if l == p.leg then busy_at t p m else busy_alone t keeps (fleet_by t p) m l

-- those of all legs
unfoldable pub surely_busy : Tables → Domains → Pair → ℕ → ℕ
surely_busy t keeps p m = sum_below (busy_on t keeps p m) (legs_in t)

-- the first rule that a pair meets among the kept pairs
unfoldable pub rule_of : Tables → Domains → Pair → Option Rule
rule_of t keeps p =
    if landings t keeps (fleet_by t p) (leg_of t p.leg).from == 0 then Some rule.NoArrival
    else if departures t keeps (fleet_by t p) (leg_of t p.leg).to == 0 then Some rule.NoDeparture
    else if nat_lt (fleet_of t (fleet_by t p)).aircraft (surely_busy t keeps p (departure t p)) then Some rule.TooFewAircraft
    else None

-- the rule by which a kept pair that a fleet flies may be removed
abbrev pub removed_by : Tables → Domains → Pair → Option Rule
removed_by t keeps p = if keeps p && nat_lt (fleet_by t p) (fleets_in t) then rule_of t keeps p else None
