-- The bound that prices give in a subproblem, which is Lagrangian: each leg takes the choice that is cheapest by
-- the prices; the rents of all aircraft are taken off, and charges.
use Rattle.std.specs.Prelude.{ℕ, zero, suc, ◌+◌, Bool, if◌then◌else◌, ℤ, pos, ◌+ℤ◌, ◌-ℤ◌, ◌*ℤ◌, nat_lt, Option, Some, None, unwrap_or, int_le}
use Rattle.sums.specs.Below.{sum_below_ℤ}
use Rattle.fleet_model.specs.Kept.{Domains}
use Rattle.fleet_model.specs.Legal.{cost_of}
use Rattle.fleet_model.specs.Schedule.{choices_in, days_in, fleet_by, fleet_of, fleets_in, leg_of, leg_on, legs_in, parking_limit, stations_in}
use Rattle.fleet_model.specs.Times.{departure, laps_of, ready_minute}
use Rattle.fleet_model.specs.declared.parts.Pair.{Pair}
use Rattle.fleet_model.specs.declared.tables.Tables.{Tables}
use Rattle.dual_bound.specs.Prices.{charge_of, price_of, rent_of}
use Rattle.dual_bound.specs.declared.prices.Prices.{Prices}

-- the lesser of two numbers, of which the first may not be there
abbrev pub lesser : Option ℤ → ℤ → ℤ
lesser None z = z
lesser (Some y) z = if int_le y z then y else z

-- the least of f 0, f 1, .. up to and without f n, of those that are kept
unfoldable pub least_below : (ℕ → Bool) → (ℕ → ℤ) → ℕ → Option ℤ
least_below keeps f zero = None
least_below keeps f (suc n) = if keeps n then Some (lesser (least_below keeps f n) (f n)) else least_below keeps f n

-- what a pair costs, and 0 where it may not be taken
abbrev pub cost_units : Tables → Pair → ℤ
cost_units t p = unwrap_or (cost_of t p) (pos 0)

-- what aircraft add to a pair's worth: nothing where no fleet flies it
abbrev pub where_flown : Tables → Pair → ℤ → ℤ
where_flown t p worth = if nat_lt (fleet_by t p) (fleets_in t) then worth else pos 0

-- what a pair costs by prices: k times its cost, what an aircraft is worth where and when it departs, less what
-- it is worth where and when it is ready, and rent for each period start between
abbrev pub pair_worth : Tables → Prices → ℕ → Pair → ℤ
pair_worth t prices k p =
    (pos k *ℤ prices.scale *ℤ cost_units t p)
    +ℤ where_flown t p (price_of prices (fleet_by t p) (leg_of t p.leg).from (departure t p) -ℤ price_of prices (fleet_by t p) (leg_of t p.leg).to (ready_minute t p))
    +ℤ where_flown t p (rent_of prices (fleet_by t p) *ℤ pos (laps_of t p))

-- the least such cost of a leg's kept pairs
unfoldable pub leg_worth : Tables → Domains → Prices → ℕ → ℕ → ℤ
leg_worth t keeps prices k l = unwrap_or (least_below (λ c. keeps (leg_on l c)) (λ c. pair_worth t prices k (leg_on l c)) (choices_in t l)) (pos 0)

-- the rents of a fleet's aircraft
abbrev pub rents_of : Tables → Prices → ℕ → ℤ
rents_of t prices f = rent_of prices f *ℤ pos (fleet_of t f).aircraft

-- the charges of a station at the ends of all days, each for as many aircraft as may stand there
abbrev pub charges_of : Tables → Prices → ℕ → ℤ
charges_of t prices s = sum_below_ℤ (λ d. charge_of prices s (d + 1) *ℤ pos (parking_limit t s)) (days_in t)

-- what is left of worth when the charges of all stations are taken off
unfoldable pub less_charges : Tables → Prices → ℤ → ℤ
less_charges t prices worth = worth -ℤ sum_below_ℤ (charges_of t prices) (stations_in t)

-- The worth of prices in a subproblem: with k = 1 over the scale a bound on what each legal assignment of kept
-- pairs costs; with k = 0, where it is above 0, a proof that there is none.
unfoldable pub worth_of : Tables → Domains → Prices → ℕ → ℤ
worth_of t keeps prices k = less_charges t prices (sum_below_ℤ (leg_worth t keeps prices k) (legs_in t) -ℤ sum_below_ℤ (rents_of t prices) (fleets_in t))
