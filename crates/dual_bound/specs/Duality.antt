-- Weak duality in a subproblem: what proper prices say of each mixed plan, and so of each legal assignment.
use Rattle.std.specs.Prelude.{◌≡◌, ℕ, List, [], ℤ, pos, ◌*ℤ◌, ◌≤ℤ◌, ◌<ℤ◌}
use Rattle.frac_row.specs.Ratio.{IsCeiling}
use Rattle.fleet_model.specs.declared.tables.Tables.{Tables}
use Rattle.fleet_model.specs.Counts.{Weights}
use Rattle.fleet_model.specs.Kept.{Domains, IsKeptAssignment}
use Rattle.fleet_model.specs.Legal.{IsLegal, total_cost}
use Rattle.fleet_model.specs.Mixed.{IsMixedPlan, mixed_cost}
use Rattle.dual_bound.specs.Prices.{ArePrices}
use Rattle.dual_bound.specs.Worth.{worth_of}
use Rattle.dual_bound.specs.declared.prices.Prices.{Prices}

-- The worth of prices is no more than k times their scale times the cost of any mixed plan, whatever its scale q:
-- with k = 1, worth over scale is no more than the cost of the plan.
abbrev pub WeakDuality : Type 0
WeakDuality = (t : Tables) (keeps : Domains) (prices : Prices) (q k : ℕ) (w : Weights) → ArePrices t prices → IsMixedPlan t keeps q w
    → (pos q *ℤ worth_of t keeps prices k) ≤ℤ (pos k *ℤ prices.scale *ℤ mixed_cost t w)

-- the worth over the scale is no more than the cost of any legal assignment of kept pairs
abbrev pub WorthIsLowerBound : Type 0
WorthIsLowerBound = (t : Tables) (keeps : Domains) (prices : Prices) (a : List ℕ) → ArePrices t prices → IsKeptAssignment t keeps a → IsLegal t a
    → worth_of t keeps prices 1 ≤ℤ (prices.scale *ℤ total_cost t a)

-- and so is that ratio rounded up
abbrev pub CeilingIsLowerBound : Type 0
CeilingIsLowerBound = (t : Tables) (keeps : Domains) (prices : Prices) (bound : ℤ) (a : List ℕ) → ArePrices t prices → IsCeiling (worth_of t keeps prices 1) prices.scale bound → IsKeptAssignment t keeps a → IsLegal t a
    → bound ≤ℤ total_cost t a

-- where the worth without costs is above 0, no assignment of kept pairs is legal
abbrev pub WorthRefutes : Type 0
WorthRefutes = (t : Tables) (keeps : Domains) (prices : Prices) (a : List ℕ) → ArePrices t prices → pos 0 <ℤ worth_of t keeps prices 0 → IsKeptAssignment t keeps a → ¬ (IsLegal t a)

-- prices that are all 0, over the scale 1 and with no rents and no charges, are proper
abbrev pub ZeroIsProper : Type 0
ZeroIsProper = (t : Tables) (prices : Prices) → prices.scale ≡ pos 1 → prices.rents ≡ [] → prices.steps ≡ [] → prices.charges ≡ [] → ArePrices t prices
