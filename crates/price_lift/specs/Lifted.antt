-- What is lifted from a last table, by the dual values of its lines with a price.
use Rattle.std.specs.Prelude.{◌≡◌, ℕ, List}
use Rattle.frac_row.specs.Row.{reduced}
use Rattle.frac_row.specs.declared.row.FracRow.{FracRow}
use Rattle.fleet_model.specs.Kept.{Domains, IsBare}
use Rattle.fleet_model.specs.declared.tables.Tables.{Tables}
use Rattle.dual_bound.specs.OfTables.{ArePricesOf}
use Rattle.dual_bound.specs.Prices.{AreWithin}
use Rattle.dual_bound.specs.WrittenOrder.{ArePricesInOrder}
use Rattle.dual_bound.specs.declared.prices.Prices.{Prices}
use Rattle.lp_rows.specs.Layout.{IsNetwork, Starts}
use Rattle.price_lift.specs.BestPoint.{AreGood, AreRefuting, IsBestPoint}
use Rattle.price_lift.specs.Duals.{dual_value_in}
use Rattle.price_lift.specs.PaidBack.{ArePaidBack}
use Rattle.price_lift.specs.Prices.{AreByLines}
use Rattle.price_lift.specs.Steps.{prices_by}
use Rattle.price_lift.specs.Weights.{AreBasicWeights}
use Rattle.price_lift.specs.declared.best_point.BestPoint.{BestPoint}

-- the prices of dual values in lowest terms, by the nodes of a network: within their limits, of the tables, and in written
-- order
pub record AreNodePrices (t : Tables) (keeps : Domains) (starts : Starts) (duals : FracRow) (prices : Prices) : Type 0 where
  pub scale : prices.scale ≡ (reduced duals).den
  pub by : prices ≡ prices_by t starts (reduced duals)
  pub by_lines : (other : Starts) → IsNetwork t keeps other → AreByLines t other (dual_value_in t (reduced duals)) prices
  pub of_tables : ArePricesOf t prices
  pub limits : AreWithin t prices
  pub in_order : ArePricesInOrder t prices

-- the prices of dual values in lowest terms, paid back: proper, of the tables, and in written order
pub record AreLiftedPrices (t : Tables) (keeps : Domains) (duals : FracRow) (prices : Prices) : Type 0 where
  pub scale : prices.scale ≡ (reduced duals).den
  pub paid : ArePaidBack t keeps duals prices
  pub good : AreGood t prices

-- at a cheapest point: prices, and the weights of its basic pairs, a fractional assignment that costs what the prices are
-- worth
pub record IsLiftedPoint (t : Tables) (keeps : Domains) (table : List FracRow) (basis : List ℕ) (duals : FracRow) (point : BestPoint) : Type 0 where
  pub prices : AreLiftedPrices t keeps duals point.prices
  pub weights : AreBasicWeights t keeps table basis point.mixed
  pub best : IsBestPoint t keeps point

-- where no point meets the lines: prices that refute the subproblem, where each leg keeps a pair
pub record IsLiftedRefusal (t : Tables) (keeps : Domains) (duals : FracRow) (prices : Prices) : Type 0 where
  pub lifted : AreLiftedPrices t keeps duals prices
  pub refutes : ((l : ℕ) → ¬ (IsBare t keeps l)) → AreRefuting t keeps prices
