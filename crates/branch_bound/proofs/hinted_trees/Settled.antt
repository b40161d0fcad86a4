-- What a plan, a bound and a tree say together is right.
use Rattle.std.proofs.Common.{◌≡◌, ℕ, Bool, true, false, Option, Some, None, IfSome, ℤ, if◌then◌else◌, refl, arith}
use Rattle.std.proofs.lemmas.Int.{ints}
use Rattle.std.proofs.lemmas.List.Elements.{All-weaker}
use Rattle.fleet_model.specs.Kept.{all_pairs}
use Rattle.fleet_model.specs.declared.tables.Tables.{Tables}
use Rattle.plan_judge.specs.LegalPlans.{IsLegalPlan}
use Rattle.plan_judge.specs.declared.legal_plans.LegalPlan.{LegalPlan}
use Rattle.dual_bound.specs.Bound.{IsBound}
use Rattle.dual_bound.specs.Leaves.{has_open}
use Rattle.dual_bound.specs.declared.solved.Solved.TheVariants as solved
use Rattle.dual_bound.specs.declared.trees.Tree.{Tree}
use Rattle.cert_check.specs.Nodes.{nodes_of_tree}
use Rattle.cert_check.specs.Verdicts.{BoundsAll, HoldsWith}
use Rattle.node_bounding.specs.Found.{AnswersSole, LeavesGap}
use Rattle.node_bounding.specs.Subproblems.{cost_of_plan}
use Rattle.branch_bound.specs.hinted_trees.FreeTrees.{IsFreeTreeOf, IsFreelySolved}
use Rattle.branch_bound.specs.hinted_trees.Parts.{AreAnswered, IsNodeAnswered, IsTreeWritten, SpendsSplits, go_together, settled}

module _ (t : Tables) (nodes : ℕ) (whole : Tree) where
  -- what was tested of a tree
  free_tree : (cost bound : Option ℤ) → IsTreeWritten t whole → HoldsWith t cost whole bound → SpendsSplits nodes whole → AreAnswered t cost (all_pairs t) whole → IsFreeTreeOf t nodes cost whole
  free_tree cost bound written holds spent answered = record {
    of_tables = written.of_tables;
    in_order = written.in_order;
    shallow = written.shallow;
    sound = holds.sound;
    few_splits = spent.few_splits;
    all_spent = spent.all_spent;
    no_pivots = spent.no_pivots;
    none_grew = spent.none_grew;
    soles = All-weaker (IsNodeAnswered t cost) (AnswersSole t cost) (λ n is. is.sole) (nodes_of_tree t whole) answered.each;
    gaps = All-weaker (IsNodeAnswered t cost) (LeavesGap t cost) (λ n is. is.gap) (nodes_of_tree t whole) answered.each;
  }

  module _ (plan : LegalPlan) (is : IsLegalPlan t plan) (bound : ℤ) (proved : IsFreeTreeOf t nodes (Some plan.cost) whole) (bounded : IsBound t whole (Some bound)) (all : BoundsAll t (Some bound)) where
    with_plan : (open_there together : Bool) → has_open whole ≡ open_there → go_together open_there bound plan.cost ≡ together
        → IfSome (if together then Some (solved.Planned plan.assignment plan.cost bound whole) else None) (IsFreelySolved t nodes)
    with_plan open_there false is_open test = tt
    with_plan true true is_open test = record {
      right = record { legal = is.legal; exact = is.exact; of_tree = bounded; lower = all; closed = λ shut. absurd (cc); gap = λ o. grind (arith, ints) };
      proved = proved;
    }
    with_plan false true is_open test = record {
      right = record { legal = is.legal; exact = is.exact; of_tree = bounded; lower = all; closed = λ shut. grind (arith, ints); gap = λ o. absurd (cc) };
      proved = proved;
    }

  without_plan : (open_there : Bool) → has_open whole ≡ open_there → (bound : ℤ) → IsFreeTreeOf t nodes None whole → IsBound t whole (Some bound) → BoundsAll t (Some bound)
      → IfSome (if open_there then Some (solved.Unsettled bound whole) else None) (IsFreelySolved t nodes)
  without_plan false shut bound proved bounded all = tt
  without_plan true is_open bound proved bounded all = record { right = record { is_open = is_open; of_tree = bounded; lower = all }; proved = proved }

  without_bound : (open_there : Bool) → has_open whole ≡ open_there → IsFreeTreeOf t nodes None whole → IsBound t whole None → BoundsAll t None
      → IfSome (if open_there then None else Some (solved.Infeasible whole)) (IsFreelySolved t nodes)
  without_bound true is_open proved bounded all = tt
  without_bound false shut proved bounded all = record { right = record { none = all; closed = shut; no_bound = bounded }; proved = proved }

  together : (best : Option LegalPlan) (bound : Option ℤ) → IfSome best (IsLegalPlan t) → IsFreeTreeOf t nodes (cost_of_plan best) whole → IsBound t whole bound → BoundsAll t bound
      → IfSome (settled best bound whole) (IsFreelySolved t nodes)
  together (Some plan) (Some bound) is proved bounded all = with_plan plan is bound proved bounded all (has_open whole) (go_together (has_open whole) bound plan.cost) refl refl
  together (Some plan) None is proved bounded all = tt
  together None (Some bound) is proved bounded all = without_plan (has_open whole) refl bound proved bounded all
  together None None is proved bounded all = without_bound (has_open whole) refl proved bounded all

  pub solves : (best : Option LegalPlan) (bound : Option ℤ) → IfSome best (IsLegalPlan t) → IsTreeWritten t whole → HoldsWith t (cost_of_plan best) whole bound → BoundsAll t bound → SpendsSplits nodes whole
      → AreAnswered t (cost_of_plan best) (all_pairs t) whole → IfSome (settled best bound whole) (IsFreelySolved t nodes)
  solves best bound is written holds all spent answered = together best bound is (free_tree (cost_of_plan best) bound written holds spent answered) holds.bounded all
