-- The worth of a part: its prices are worth no less than those of the whole, and so is each plan that is found in it.
use Rattle.std.proofs.Common.{◌≡◌, ℕ, Bool, true, false, ◌&&◌, List, Option, Some, None, IfSome, ℤ, pos, ◌+ℤ◌, ◌-ℤ◌, ◌*ℤ◌, ◌≤ℤ◌, ◌⊎◌, inl, inr, refl, sym, ◌∙◌, ap, subst, arith}
use Rattle.std.proofs.lemmas.Int.{by_lt_z, ints}
use lib.IntN.{*ℤ_comm}
use Rattle.sums.proofs.Integers.{*ℤ-+ℤ, *ℤ_left_comm, one-*ℤ}
use Rattle.sums.proofs.Orders.{factor_le}
use Rattle.sums.proofs.Signs.{factor_le_cancel}
use Rattle.sums.proofs.Tests.{first_true}
use Rattle.frac_row.specs.Ratio.{IsCeiling}
use Rattle.fleet_model.specs.Counts.{Weights}
use Rattle.fleet_model.specs.Kept.{Domains, IsKeptAssignment, leaves, narrowed}
use Rattle.fleet_model.specs.Mixed.{IsMixedPlan, mixed_cost}
use Rattle.fleet_model.specs.declared.kept.Step.{Step}
use Rattle.fleet_model.specs.declared.tables.Tables.{Tables}
use Rattle.plan_judge.specs.LegalPlans.{IsLegalPlan}
use Rattle.plan_judge.specs.declared.legal_plans.LegalPlan.{LegalPlan}
use Rattle.dual_bound.specs.Fractions.{parts_in, parts_of_leg}
use Rattle.dual_bound.specs.Prices.{ArePrices}
use Rattle.dual_bound.specs.Worth.{worth_of}
use Rattle.dual_bound.specs.declared.prices.Prices.{Prices}
use Rattle.dual_bound.proofs.Duality.{ceiling_is_lower_bound, weak_duality}
use Rattle.node_bounding.specs.Examined.{IsExamined, IsFoundHere}
use Rattle.node_bounding.specs.Relaxed.{IsBestPoint}
use Rattle.price_lift.specs.declared.best_point.BestPoint.{BestPoint}
use Rattle.node_bounding.specs.Subproblems.{cost_of_plan, node_of}
use Rattle.node_bounding.specs.declared.states.State.{State}
use Rattle.dual_bound.specs.declared.nodes.Node.{Node}

-- ---- of the pairs that a part keeps, the whole keeps each
-- a mixed plan of a part is one of the whole
whole_plan : (t : Tables) (keeps : Domains) (step : Step) (q : ℕ) (w : Weights) → IsMixedPlan t (narrowed keeps step) q w → IsMixedPlan t keeps q w
whole_plan t keeps step q w plan = record { kept = λ p pair other. plan.kept p pair (not_kept (keeps p) (leaves step p) other); cover = plan.cover; balanced = plan.balanced; within = plan.within; room = plan.room }
  where
    not_kept : (a b : Bool) → a ≡ false → a && b ≡ false
    not_kept false b e = refl
    not_kept true b e = cc

-- an assignment of kept pairs too
whole_assignment : (t : Tables) (keeps : Domains) (step : Step) (a : List ℕ) → IsKeptAssignment t (narrowed keeps step) a → IsKeptAssignment t keeps a
whole_assignment t keeps step a kept = record { assignment = kept.assignment; kept = λ l below. first_true _ _ (kept.kept l below) }

-- ---- worths, rounded
-- of two ratios over positive numbers the lesser rounds to no more
rounded_le : (n d m q x y : ℤ) → pos 1 ≤ℤ d → pos 1 ≤ℤ q → (n *ℤ q) ≤ℤ (m *ℤ d) → IsCeiling n d x → IsCeiling m q y → x ≤ℤ y
rounded_le n d m q x y some more less lesser greater =
    by_lt_z y x
    (λ above.
    let step = factor_le d y (x -ℤ pos 1) (omega (arith, ints, some)) (omega (arith, ints, above)) in
    let under : ((d *ℤ y) +ℤ pos 1) ≤ℤ n = omega (arith, ints, step, lesser.least, *ℤ_comm (x -ℤ pos 1) d) in
    let scaled = factor_le q ((d *ℤ y) +ℤ pos 1) n (omega (arith, ints, more)) under in
    let over = factor_le d m (y *ℤ q) (omega (arith, ints, some)) greater.enough in
    let turned : q *ℤ (d *ℤ y) ≡ d *ℤ (y *ℤ q) = *ℤ_left_comm q d y ∙ ap (λ z. d *ℤ z) (*ℤ_comm q y) in
    absurd (omega (arith, ints, less, scaled, over, turned, more, *ℤ-+ℤ q (d *ℤ y) (pos 1), *ℤ_comm q (pos 1), one-*ℤ q, *ℤ_comm n q, *ℤ_comm m d)))
    (λ fine. fine)

-- the same over a third ratio between them
over_mixed : (w v m ps os ms : ℤ) → pos 1 ≤ℤ os → pos 1 ≤ℤ ms → (ms *ℤ w) ≤ℤ (ps *ℤ m) → (m *ℤ os) ≡ (v *ℤ ms) → (w *ℤ os) ≤ℤ (v *ℤ ps)
over_mixed w v m ps os ms some more less same =
    let scaled = factor_le os (ms *ℤ w) (ps *ℤ m) (omega (arith, ints, some)) less in
    let turned : os *ℤ (ps *ℤ m) ≡ ms *ℤ (ps *ℤ v) = *ℤ_left_comm os ps m ∙ ap (λ z. ps *ℤ z) (*ℤ_comm os m ∙ same ∙ *ℤ_comm v ms) ∙ *ℤ_left_comm ps ms v in
    let fine : (os *ℤ w) ≤ℤ (ps *ℤ v) = factor_le_cancel ms (os *ℤ w) (ps *ℤ v) (omega (arith, ints, more)) (omega (arith, ints, scaled, turned, *ℤ_left_comm os ms w)) in
    omega (arith, ints, fine, *ℤ_comm w os, *ℤ_comm v ps)

-- the rounded worth of a part's best prices is no less than that of the whole's
pub part_no_less : (t : Tables) (keeps : Domains) (step : Step) (prices : Prices) (own : BestPoint) (worth other : ℤ) → ArePrices t prices → IsBestPoint t (narrowed keeps step) own
    → IsCeiling (worth_of t keeps prices 1) prices.scale worth → IsCeiling (worth_of t (narrowed keeps step) own.prices 1) own.prices.scale other → worth ≤ℤ other
part_no_less t keeps step prices own worth other proper best rounded own_rounded =
    let mixed = own.mixed in
    let scale : pos 1 ≤ℤ mixed.scale = best.mixed_at.parts.scale.some in
    let parts : pos (parts_of_leg mixed) ≡ mixed.scale = omega (arith, ints, scale) in
    let dual = weak_duality t keeps prices (parts_of_leg mixed) 1 (parts_in mixed) proper (whole_plan t keeps step (parts_of_leg mixed) (parts_in mixed) best.mixed_at.plan) in
    let less : (mixed.scale *ℤ worth_of t keeps prices 1) ≤ℤ (prices.scale *ℤ mixed_cost t (parts_in mixed)) = rw (parts, one-*ℤ) at dual in
    rounded_le (worth_of t keeps prices 1) prices.scale (worth_of t (narrowed keeps step) own.prices 1) own.prices.scale worth other proper.scale.some best.good.proper.scale.some
    (over_mixed (worth_of t keeps prices 1) (worth_of t (narrowed keeps step) own.prices 1) (mixed_cost t (parts_in mixed)) prices.scale own.prices.scale mixed.scale best.good.proper.scale.some scale less best.value) rounded own_rounded

-- ---- plans that are found in a part
-- they cost no less than the rounded worth of the whole
pub found_no_less : (t : Tables) (keeps : Domains) (step : Step) (prices : Prices) (worth : ℤ) (node : Node) (best : Option LegalPlan) → ArePrices t prices → IsCeiling (worth_of t keeps prices 1) prices.scale worth
    → IfSome best (IsLegalPlan t) → IsFoundHere t (narrowed keeps step) node best → IfSome (cost_of_plan best) (λ c. worth ≤ℤ c)
found_no_less t keeps step prices worth node None proper rounded plan found = absurd found
found_no_less t keeps step prices worth node (Some best) proper rounded plan found =
    subst (λ c. worth ≤ℤ c) (sym plan.exact) (ceiling_is_lower_bound t keeps prices worth best.assignment proper rounded (whole_assignment t keeps step best.assignment found.kept) plan.legal)

-- so the cheapest plan costs no less once a part was made, where it did before
pub cost_no_less : (t : Tables) (pivots : Option ℕ) (keeps : Domains) (step : Step) (prices above : Prices) (worth : ℤ) (before after : Option LegalPlan) (made : State) → ArePrices t prices → IsCeiling (worth_of t keeps prices 1) prices.scale worth
    → IfSome (cost_of_plan before) (λ c. worth ≤ℤ c) → IsExamined t pivots before after (narrowed keeps step) above made → IfSome (cost_of_plan after) (λ c. worth ≤ℤ c)
cost_no_less t pivots keeps step prices above worth before after made proper rounded below is = by_place is.place
  where
    by_place : (after ≡ before) ⊎ IsFoundHere t (narrowed keeps step) (node_of made) after → IfSome (cost_of_plan after) (λ c. worth ≤ℤ c)
    by_place (inl same) = subst (λ b. IfSome (cost_of_plan b) (λ c. worth ≤ℤ c)) (sym same) below
    by_place (inr here) = found_no_less t keeps step prices worth _ after proper rounded is.plan here
