-- Mixed plans: fractional assignments, points of the linear relaxation.
use Rattle.std.specs.Prelude.{◌≡◌, ℕ, ◌*◌, ◌<◌, ◌≤◌, false, List, unwrap_or, ℤ, pos, ◌*ℤ◌}
use Rattle.sums.specs.Below.{sum_below, sum_below_ℤ}
use Rattle.fleet_model.specs.declared.parts.Pair.{Pair}
use Rattle.fleet_model.specs.declared.tables.Tables.{Tables}
use Rattle.fleet_model.specs.Counts.{Weights, weights_of}
use Rattle.fleet_model.specs.Kept.{Domains, IsKeptAssignment}
use Rattle.fleet_model.specs.Legal.{HasRoom, IsLegal, cost_of, total_cost}
use Rattle.fleet_model.specs.Schedule.{IsPair, choices_in, fleet_of, fleets_in, leg_on, legs_in}
use Rattle.fleet_model.specs.Use.{IsBalanced, used_of}

-- the weights of a leg's pairs, added up
abbrev pub weight_on : Tables → Weights → ℕ → ℕ
weight_on t w l = sum_below (λ c. w (leg_on l c)) (choices_in t l)

-- A mixed plan in a subproblem, of some scale: of each leg so many parts in all, on kept pairs alone, balanced, no fleet
-- uses more aircraft than it has and no station has more at night than it may, so many parts each.
pub record IsMixedPlan (t : Tables) (keeps : Domains) (scale : ℕ) (w : Weights) : Type 0 where
  pub kept : (p : Pair) → IsPair t p → keeps p ≡ false → w p ≡ 0
  pub cover : (l : ℕ) → l < legs_in t → weight_on t w l ≡ scale
  pub balanced : IsBalanced t w
  pub within : (f : ℕ) → f < fleets_in t → used_of t w f ≤ scale * (fleet_of t f).aircraft
  pub room : HasRoom t scale w

-- what a pair costs by its weight; a pair that may not be flown adds 0
abbrev pub weighted_cost : Tables → Weights → ℕ → ℕ → ℤ
weighted_cost t w l c = pos (w (leg_on l c)) *ℤ unwrap_or (cost_of t (leg_on l c)) (pos 0)

-- the cost of a mixed plan, times its scale: the costs of pairs by their weights, added up
unfoldable pub mixed_cost : Tables → Weights → ℤ
mixed_cost t w = sum_below_ℤ (λ l. sum_below_ℤ (weighted_cost t w l) (choices_in t l)) (legs_in t)

-- the weights of a legal assignment of kept pairs are a mixed plan of scale 1, of the same cost
pub record IsWholePlan (t : Tables) (keeps : Domains) (a : List ℕ) : Type 0 where
  pub plan : IsMixedPlan t keeps 1 (weights_of a)
  pub cost : mixed_cost t (weights_of a) ≡ total_cost t a

abbrev pub LegalIsMixed : Type 0
LegalIsMixed = (t : Tables) (keeps : Domains) (a : List ℕ) → IsKeptAssignment t keeps a → IsLegal t a → IsWholePlan t keeps a
