-- Trees whose legs, fleets and stations are those of tables.
use Rattle.std.specs.Prelude.{◌<◌, All, ⊤}
use Rattle.fleet_model.specs.Schedule.{IsPair, fleets_in, leg_on, legs_in, stations_in}
use Rattle.fleet_model.specs.declared.tables.Tables.{Tables}
use Rattle.dual_bound.specs.declared.mixed.Mixed.{Mixed}
use Rattle.dual_bound.specs.declared.mixed.Weight.{Weight}
use Rattle.dual_bound.specs.declared.prices.Charge.{Charge}
use Rattle.dual_bound.specs.declared.prices.Prices.{Prices}
use Rattle.dual_bound.specs.declared.prices.PriceStep.{PriceStep}
use Rattle.dual_bound.specs.declared.trees.Cause.{Cause}
use Rattle.dual_bound.specs.declared.trees.Cause.TheVariants as cause
use Rattle.dual_bound.specs.declared.trees.Tree.{Tree}
use Rattle.dual_bound.specs.declared.trees.Tree.TheVariants as tree

-- a step of a fleet at a station of the tables
pub record IsStepOf (t : Tables) (step : PriceStep) : Type 0 where
  pub fleet : step.fleet < fleets_in t
  pub station : step.station < stations_in t

-- a charge at a station of the tables
abbrev pub IsChargeOf : Tables → Charge → Type 0
IsChargeOf t charge = charge.station < stations_in t

-- all steps and charges of prices are of the tables
pub record ArePricesOf (t : Tables) (prices : Prices) : Type 0 where
  pub steps : All (IsStepOf t) prices.steps
  pub charges : All (IsChargeOf t) prices.charges

-- a weight of a leg on a choice of the tables
abbrev pub IsWeightOf : Tables → Weight → Type 0
IsWeightOf t weight = IsPair t (leg_on weight.leg weight.choice)

-- all weights of a fractional assignment are of the tables
abbrev pub IsMixedOf : Tables → Mixed → Type 0
IsMixedOf t mixed = All (IsWeightOf t) mixed.weights

-- all that a cause names is of the tables
abbrev pub IsCauseOf : Tables → Cause → Type 0
IsCauseOf t (cause.Nodes mixed) = IsMixedOf t mixed
IsCauseOf t (cause.Pivots made) = ⊤
IsCauseOf t (cause.Grew pivots row column) = ⊤
IsCauseOf t (cause.Lift step at) = ⊤

-- all that a tree names is of the tables
abbrev pub IsOfTables : Tables → Tree → Type 0
IsOfTables t (tree.Bare leg) = leg < legs_in t
IsOfTables t tree.Sole = ⊤
IsOfTables t (tree.Refuted prices) = ArePricesOf t prices
IsOfTables t (tree.Priced prices) = ArePricesOf t prices
IsOfTables t (tree.Open prices why) = ArePricesOf t prices × IsCauseOf t why
IsOfTables t (tree.Trim' leg choice p with_pair q without) = IsPair t (leg_on leg choice) × IsOfTables t with_pair × IsOfTables t without
IsOfTables t (tree.Split' leg choice prices mixed p with_pair q without) =
    IsPair t (leg_on leg choice) × ArePricesOf t prices × IsMixedOf t mixed × IsOfTables t with_pair × IsOfTables t without
