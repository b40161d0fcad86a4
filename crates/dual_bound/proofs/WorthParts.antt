-- What is left of the worth of legs when rents and charges are taken off, as 128 bits hold it.
use Rattle.std.proofs.Common.{◌≡◌, ℕ, ◌+◌, ◌*◌, ℤ, ◌-ℤ◌, arith}
use Rattle.std.proofs.lemmas.Int.{ints}
use Rattle.sums.specs.Below.{sum_below_ℤ}
use Rattle.fleet_model.specs.declared.limits.TheConstants.{MAX_AIRCRAFT}
use Rattle.fleet_model.specs.declared.tables.Tables.{Tables}
use Rattle.fleet_model.specs.Kept.{Domains}
use Rattle.fleet_model.specs.Schedule.{fleets_in, legs_in, stations_in}
use Rattle.dual_bound.specs.Sizes.{IsUpTo}
use Rattle.dual_bound.specs.Worth.{charges_of, leg_worth, less_charges, rents_of, worth_of}
use Rattle.dual_bound.specs.declared.prices.Prices.{Prices}
use Rattle.dual_bound.proofs.Numbers.{held, two_taken}

pub worth_held : (t : Tables) (keeps : Domains) (prices : Prices) (k : ℕ) (legs rents charges : ℤ) → IsUpTo (7 * legs_in t) legs → IsUpTo (MAX_AIRCRAFT * fleets_in t) rents → IsUpTo (70000 * stations_in t) charges
    → legs ≡ sum_below_ℤ (leg_worth t keeps prices k) (legs_in t) → rents ≡ sum_below_ℤ (rents_of t prices) (fleets_in t) → charges ≡ sum_below_ℤ (charges_of t prices) (stations_in t)
    → held (held (held legs -ℤ held rents) -ℤ held charges) ≡ worth_of t keeps prices k
unfolding worth_of less_charges
worth_held t keeps prices k legs rents charges few_legs few_rents few_charges p q r =
    two_taken (7 * legs_in t) (MAX_AIRCRAFT * fleets_in t) (70000 * stations_in t) legs rents charges _ _ _ few_legs few_rents few_charges
    (omega (arith, t.in_range.legs_fit.few, t.in_range.fleets_fit.few, t.in_range.stations_fit.few)) p q r

-- .. which isn't more in size than all parts together
pub worth_size : (t : Tables) (keeps : Domains) (prices : Prices) (k : ℕ) (legs rents charges : ℤ) → IsUpTo (7 * legs_in t) legs → IsUpTo (MAX_AIRCRAFT * fleets_in t) rents → IsUpTo (70000 * stations_in t) charges
    → legs ≡ sum_below_ℤ (leg_worth t keeps prices k) (legs_in t) → rents ≡ sum_below_ℤ (rents_of t prices) (fleets_in t) → charges ≡ sum_below_ℤ (charges_of t prices) (stations_in t)
    → IsUpTo (7 * legs_in t + MAX_AIRCRAFT * fleets_in t + 70000 * stations_in t) (worth_of t keeps prices k)
unfolding worth_of less_charges
worth_size t keeps prices k legs rents charges few_legs few_rents few_charges p q r = record {
  no_less = omega (arith, ints, few_legs, few_rents, few_charges, p, q, r);
  no_more = omega (arith, ints, few_legs, few_rents, few_charges, p, q, r);
}
