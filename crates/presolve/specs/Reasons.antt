-- The prices by which a rule shows that nothing legal is left where a pair is flown.
use Rattle.std.specs.Prelude.{◌≡◌, ℕ, zero, suc, ◌+◌, ◌<◌, ◌==◌, ◌&&◌, nat_le, nat_lt, if◌then◌else◌, List, [], ◌∷◌, ◌++◌, ℤ, pos, negsuc}
use Rattle.sums.specs.Places.{list_below}
use Rattle.fleet_model.specs.Schedule.{fleet_by, fleets_in, last_of, leg_of, period_of, stations_in}
use Rattle.fleet_model.specs.Times.{departure}
use Rattle.fleet_model.specs.declared.parts.Pair.{Pair}
use Rattle.fleet_model.specs.declared.tables.Tables.{Tables}
use Rattle.dual_bound.specs.OfTables.{ArePricesOf}
use Rattle.dual_bound.specs.Prices.{price_of}
use Rattle.dual_bound.specs.WrittenOrder.{ArePricesInOrder}
use Rattle.dual_bound.specs.declared.prices.Prices.{Prices}
use Rattle.dual_bound.specs.declared.prices.PriceStep.{PriceStep}
use Rattle.presolve.specs.declared.rule.Rule.{Rule}
use Rattle.presolve.specs.declared.rule.Rule.TheVariants as rule

-- the rent of a fleet's aircraft: 1 of the pair's own fleet where it has too few
abbrev pub reason_rent : Rule → ℕ → ℕ → ℤ
reason_rent rule.NoArrival own f = pos 0
reason_rent rule.NoDeparture own f = pos 0
reason_rent rule.TooFewAircraft own f = if f == own then pos 1 else pos 0

-- the price of a fleet at a station at a minute: of the pair's own 1 where the leg departs, or -1 where it lands, or
-- 1 everywhere until the leg departs
abbrev pub reason_price : Tables → Rule → Pair → ℕ → ℕ → ℕ → ℤ
reason_price t rule.NoArrival p f s m = if (f == fleet_by t p) && (s == (leg_of t p.leg).from) then pos 1 else pos 0
reason_price t rule.NoDeparture p f s m = if (f == fleet_by t p) && (s == (leg_of t p.leg).to) then negsuc 0 else pos 0
reason_price t rule.TooFewAircraft p f s m = if (f == fleet_by t p) && nat_le m (departure t p) then pos 1 else pos 0

-- prices are the reason by which a rule removes a pair: these rents and prices over the scale 1, without charges, written in order
pub record IsReason (t : Tables) (why : Rule) (p : Pair) (prices : Prices) : Type 0 where
  pub scale : prices.scale ≡ pos 1
  pub rents : prices.rents ≡ list_below (reason_rent why (fleet_by t p)) (fleets_in t)
  pub each_price : (f s m : ℕ) → f < fleets_in t → s < stations_in t → m < period_of t → price_of prices f s m ≡ reason_price t why p f s m
  pub no_charges : prices.charges ≡ []
  pub of_tables : ArePricesOf t prices
  pub in_order : ArePricesInOrder t prices

-- the steps at a station of a price that is 1 until a minute
abbrev pub steps_until_minute : Tables → ℕ → ℕ → ℕ → List PriceStep
steps_until_minute t f m s =
    record { fleet = f; station = s; minute = 0; value = pos 1 }
    ∷ (if nat_lt m (last_of t) then record { fleet = f; station = s; minute = m + 1; value = pos 0 } ∷ [] else [])

-- the same at the stations below a number
unfoldable pub steps_until : Tables → ℕ → ℕ → ℕ → List PriceStep
steps_until t f m zero = []
steps_until t f m (suc s) = steps_until t f m s ++ steps_until_minute t f m s

-- the steps of a rule's prices
abbrev pub reason_steps : Tables → Rule → Pair → List PriceStep
reason_steps t rule.NoArrival p = record { fleet = fleet_by t p; station = (leg_of t p.leg).from; minute = 0; value = pos 1 } ∷ []
reason_steps t rule.NoDeparture p = record { fleet = fleet_by t p; station = (leg_of t p.leg).to; minute = 0; value = negsuc 0 } ∷ []
reason_steps t rule.TooFewAircraft p = steps_until t (fleet_by t p) (departure t p) (stations_in t)
