-- Subproblems that may be split by a pair.
use Rattle.std.specs.Prelude.{◌≢◌, ℕ, ◌<◌}
use Rattle.fleet_model.specs.Kept.{Domains}
use Rattle.fleet_model.specs.Schedule.{IsPair, choices_in}
use Rattle.fleet_model.specs.declared.parts.Pair.{Pair}
use Rattle.fleet_model.specs.declared.tables.Tables.{Tables}
use Rattle.dual_bound.specs.Fractions.{IsFraction}
use Rattle.cert_check.specs.Rules.{IsKeptPair}
use Rattle.node_bounding.specs.Causes.{IsFirstPartial}
use Rattle.price_lift.specs.BestPoint.{IsBestPoint}
use Rattle.price_lift.specs.declared.best_point.BestPoint.{BestPoint}
use Rattle.node_bounding.specs.Runs.{IsSearched}

-- a leg keeps another choice beside this one
pub record KeepsOther (t : Tables) (keeps : Domains) (leg choice : ℕ) : Type 0 where
  pub other : ℕ
  pub known : other < choices_in t leg
  pub kept : IsKeptPair keeps leg other
  pub differs : other ≢ choice

-- a subproblem that may be split by a pair, with its best fractional assignment
pub record IsSplit (t : Tables) (keeps : Domains) (by : Pair) (point : BestPoint) : Type 0 where
  pub searched : IsSearched t keeps
  pub best : IsBestPoint t keeps point
  pub fraction : IsFraction t keeps point.prices point.mixed
  pub first : IsFirstPartial t point.mixed by.leg by.choice
  pub pair : IsPair t by
  pub kept : IsKeptPair keeps by.leg by.choice
  pub other : KeepsOther t keeps by.leg by.choice
