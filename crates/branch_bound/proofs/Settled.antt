-- What a tree proves that comes with the cheapest plan found, or with none.
use Rattle.std.proofs.Common.{ℕ, All, Option, Some, None, ℤ, subst, arith}
use Rattle.std.proofs.lemmas.Int.{ints}
use Rattle.std.proofs.lemmas.List.Elements.{All-head}
use Rattle.sums.proofs.Tests.{by_test}
use Rattle.fleet_model.specs.Kept.{all_pairs}
use Rattle.fleet_model.specs.declared.tables.Tables.{Tables}
use Rattle.plan_judge.specs.declared.legal_plans.LegalPlan.{LegalPlan}
use Rattle.dual_bound.specs.Bound.{IsBound, IsInfeasible, IsLowerBound}
use Rattle.dual_bound.specs.Leaves.{has_open}
use Rattle.dual_bound.specs.declared.trees.Tree.{Tree}
use Rattle.cert_check.specs.Rules.{IsSound}
use Rattle.cert_check.specs.Verdicts.{AreSound, BreaksAt}
use Rattle.branch_bound.specs.Settled.{IsProvedBy}
use Rattle.branch_bound.specs.Solved.{IsPlanned, IsRefuted, IsUnsettled}
use Rattle.branch_bound.proofs.Bounds.{closed_bound, open_bound}
use Rattle.node_bounding.proofs.Nodes.{second_all}

-- a tree whose nodes keep all rules breaks none
pub never_broken : (t : Tables) (cost : Option ℤ) (whole : Tree) (node number : ℕ) → AreSound t cost (all_pairs t) whole → ¬ (BreaksAt t cost whole node number)
never_broken t cost whole node number sound broken =
    broken.first.fault.broken ((All-head (IsSound t cost) broken.first.node broken.first.after (second_all (IsSound t cost) broken.first.before _ (subst (All (IsSound t cost)) broken.first.order sound))).each broken.rule)

-- with a plan
module _ (t : Tables) (plan : LegalPlan) (whole : Tree) (is : IsProvedBy t (Some plan) whole) where
  pub planned : (bound : ℤ) → IsBound t whole (Some bound) → IsLowerBound t bound → IsPlanned t plan.assignment plan.cost bound whole
  planned bound bounded lower = record {
    legal = is.plan.legal;
    exact = is.plan.exact;
    of_tree = bounded;
    lower = lower;
    closed = λ shut. omega (arith, ints, closed_bound t (Some plan.cost) (all_pairs t) whole (Some bound) is.sound is.soles shut bounded, lower.each plan.assignment is.plan.legal, is.plan.exact);
    gap = λ some. open_bound t (Some plan.cost) (all_pairs t) whole (Some bound) is.sound is.gaps some bounded;
  }

-- without one
module _ (t : Tables) (whole : Tree) (is : IsProvedBy t None whole) where
  pub refuted : IsBound t whole None → IsInfeasible t → IsRefuted t whole
  refuted bounded none = record {
    none = none;
    closed = by_test (has_open whole) (λ some. absurd (open_bound t None (all_pairs t) whole None is.sound is.gaps some bounded)) (λ shut. shut);
    no_bound = bounded;
  }

  pub unsettled : (bound : ℤ) → IsBound t whole (Some bound) → IsLowerBound t bound → IsUnsettled t bound whole
  unsettled bound bounded lower = record {
    is_open = by_test (has_open whole) (λ some. some) (λ shut. absurd (closed_bound t None (all_pairs t) whole (Some bound) is.sound is.soles shut bounded));
    of_tree = bounded;
    lower = lower;
  }
