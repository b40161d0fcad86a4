-- Prices by the nodes after each rise over an arc that went is paid back, and what is first too large then.
use Rattle.std.specs.Prelude.{◌≡◌, ℕ, List, [], ◌∷◌, Option, Some, None}
use Rattle.frac_row.specs.Row.{reduced}
use Rattle.frac_row.specs.declared.row.FracRow.{FracRow}
use Rattle.fleet_model.specs.Kept.{Domains}
use Rattle.fleet_model.specs.Schedule.{fleets_in}
use Rattle.fleet_model.specs.declared.tables.Tables.{Tables}
use Rattle.simplex_frac.specs.declared.dual_lift.error.Excess.{Excess}
use Rattle.simplex_frac.specs.declared.dual_lift.error.LiftError.{LiftError}
use Rattle.simplex_frac.specs.declared.dual_lift.error.LiftError.TheVariants as lift
use Rattle.lp_rows.specs.Layout.{IsNetwork, Starts, moment_at, node_of_place}
use Rattle.dual_bound.specs.declared.prices.Prices.{Prices}
use Rattle.island_prices.specs.Arcs.{ArcMoments}
use Rattle.island_prices.specs.Least.{least_idle}
use Rattle.island_prices.specs.Paid.{first_beyond, paid_price, paid_prices, paid_rent}
use Rattle.island_prices.specs.Rounds.{rounds_of}
use Rattle.island_prices.specs.declared.paying.PaybackError.{PaybackError}
use Rattle.island_prices.specs.declared.paying.PaybackError.TheVariants.{Beyond, NoMemory}
use Rattle.island_prices.specs.declared.rises.Rise.{Rise}
use Rattle.price_lift.specs.ArcRises.{rises_by}
use Rattle.price_lift.specs.Duals.{dual_value_in}
use Rattle.price_lift.specs.Prices.{AreByLines}
use Rattle.price_lift.specs.Steps.{prices_by}

-- the moments of the arcs of a network
abbrev pub moments_by : Tables → Domains → Starts → ArcMoments
moments_by t keeps starts f s k = moment_at t keeps starts (node_of_place f s k)

-- where no price rises, all stay
abbrev pub paid_back : Tables → Prices → List Rise → Prices
paid_back t prices [] = prices
paid_back t prices (rise ∷ rises) = paid_prices t prices (rise ∷ rises) (rounds_of t (rise ∷ rises) (least_idle t))

-- step 7: the first fleet with a rent or a price that is too large
abbrev pub beyond_excess : Option ℕ → Option Excess
beyond_excess (Some f) = Some (record { step = 7; at = f })
beyond_excess None = None

abbrev pub payback_excess : Tables → Prices → List Rise → Option Excess
payback_excess t prices [] = None
payback_excess t prices (rise ∷ rises) =
    beyond_excess (first_beyond t (paid_rent prices (rounds_of t (rise ∷ rises) (least_idle t))) (paid_price prices (rise ∷ rises) (rounds_of t (rise ∷ rises) (least_idle t))) (fleets_in t))

-- why a lift is refused then
abbrev pub lift_error : PaybackError → LiftError
lift_error (Beyond fleet) = lift.TooLarge 7 fleet
lift_error NoMemory = lift.NoMemory

-- the prices of dual values by the nodes of a network, and the rises over its arcs that went
abbrev pub rises_of_duals : Tables → Domains → Starts → FracRow → List Rise
rises_of_duals t keeps starts duals = rises_by t starts (moments_by t keeps starts) (prices_by t starts (reduced duals))

unfoldable pub payback_excess_by : Tables → Domains → Starts → FracRow → Option Excess
payback_excess_by t keeps starts duals = payback_excess t (prices_by t starts (reduced duals)) (rises_of_duals t keeps starts duals)

-- prices of dual values, paid back: those before speak by the lines, and by the network of the subproblem rises go to their
-- moments
pub record ArePaidBack (t : Tables) (keeps : Domains) (duals : FracRow) (prices : Prices) : Type 0 where
  pub before : Prices
  pub by_lines : (starts : Starts) → IsNetwork t keeps starts → AreByLines t starts (dual_value_in t (reduced duals)) before
  pub starts : Starts
  pub network : IsNetwork t keeps starts
  pub paid : prices ≡ paid_back t before (rises_by t starts (moments_by t keeps starts) before)

-- by the network of the subproblem nothing is too large
pub record FitsBy (t : Tables) (keeps : Domains) (excess : Starts → Option Excess) : Type 0 where
  pub starts : Starts
  pub network : IsNetwork t keeps starts
  pub fits : excess starts ≡ None

-- .. and this is first
pub record IsFirstBy (t : Tables) (keeps : Domains) (excess : Starts → Option Excess) (first : Excess) : Type 0 where
  pub starts : Starts
  pub network : IsNetwork t keeps starts
  pub is : excess starts ≡ Some first

-- why a lift is refused by it; want of memory is free
abbrev pub IsLiftErrorBy : Tables → Domains → (Starts → Option Excess) → LiftError → Type 0
IsLiftErrorBy t keeps excess (lift.TooLarge step at) = IsFirstBy t keeps excess (record { step = step; at = at })
IsLiftErrorBy t keeps excess lift.NoMemory = Unit {0}
