-- Proper prices, and what they say of a subproblem: that nothing in it is legal, or what its best fractional assignment costs.
use Rattle.std.specs.Prelude.{pos, ◌<ℤ◌}
use Rattle.fleet_model.specs.Kept.{Domains}
use Rattle.fleet_model.specs.declared.tables.Tables.{Tables}
use Rattle.dual_bound.specs.Fractions.{IsMixedAt, IsWorth}
use Rattle.dual_bound.specs.OfTables.{ArePricesOf, IsMixedOf}
use Rattle.dual_bound.specs.Prices.{ArePrices}
use Rattle.dual_bound.specs.Worth.{worth_of}
use Rattle.dual_bound.specs.WrittenOrder.{ArePricesInOrder, IsMixedInOrder}
use Rattle.dual_bound.specs.declared.prices.Prices.{Prices}
use Rattle.price_lift.specs.declared.best_point.BestPoint.{BestPoint}

-- proper prices of the tables, in written order
pub record AreGood (t : Tables) (prices : Prices) : Type 0 where
  pub proper : ArePrices t prices
  pub known : ArePricesOf t prices
  pub in_order : ArePricesInOrder t prices

-- prices that refute a subproblem
pub record AreRefuting (t : Tables) (keeps : Domains) (prices : Prices) : Type 0 where
  pub good : AreGood t prices
  pub refute : pos 0 <ℤ worth_of t keeps prices 0

-- a fractional assignment of the kept pairs, and prices that are worth what it costs
pub record IsBestPoint (t : Tables) (keeps : Domains) (best : BestPoint) : Type 0 where
  pub good : AreGood t best.prices
  pub known : IsMixedOf t best.mixed
  pub in_order : IsMixedInOrder t best.mixed
  pub mixed_at : IsMixedAt t keeps best.mixed
  pub value : IsWorth t keeps best.prices best.mixed
