-- Whole mixed plans: each pair has all of its leg or nothing.
use Rattle.std.specs.Prelude.{◌≡◌, ℕ, ◌*◌, ◌<◌, ◌≢◌, true, List, IsSome}
use Rattle.fleet_model.specs.declared.parts.Pair.{Pair}
use Rattle.fleet_model.specs.declared.tables.Tables.{Tables}
use Rattle.fleet_model.specs.Counts.{Weights, weights_of}
use Rattle.fleet_model.specs.Kept.{Domains, IsKeptAssignment}
use Rattle.fleet_model.specs.Legal.{IsLegal, cost_of}
use Rattle.fleet_model.specs.Mixed.{IsMixedPlan}
use Rattle.fleet_model.specs.Schedule.{IsPair}

-- each pair weighs the scale or nothing
pub record IsWhole (t : Tables) (scale : ℕ) (w : Weights) : Type 0 where
  pub each : (p : Pair) → IsPair t p → w p ≢ 0 → w p ≡ scale

-- only pairs that may be taken are kept
pub record KeepAllowed (t : Tables) (keeps : Domains) : Type 0 where
  pub each : (p : Pair) → IsPair t p → keeps p ≡ true → IsSome (cost_of t p)

-- a legal assignment of kept pairs whose weights these are, so many parts each
pub record IsLegalBy (t : Tables) (keeps : Domains) (scale : ℕ) (w : Weights) (a : List ℕ) : Type 0 where
  pub kept : IsKeptAssignment t keeps a
  pub legal : IsLegal t a
  pub weights : (p : Pair) → IsPair t p → w p ≡ scale * weights_of a p

-- a whole mixed plan is a legal assignment of kept pairs
abbrev pub WholeIsLegal : Type 0
WholeIsLegal = (t : Tables) (keeps : Domains) (scale : ℕ) (w : Weights) → 0 < scale → KeepAllowed t keeps → IsMixedPlan t keeps scale w → IsWhole t scale w
    → (a : List ℕ) × IsLegalBy t keeps scale w a
