-- What a solution says of the tables, and how its tree came about.
use Rattle.std.specs.Prelude.{◌≡◌, ℕ, ◌<◌, ◌≤◌, List, true, false, All, Any, Option, Some, None, IfSome, ℤ, ◌≤ℤ◌, ◌<ℤ◌, ⊤}
use Rattle.std.specs.List.{Contains}
use Rattle.fleet_model.specs.Kept.{all_pairs}
use Rattle.fleet_model.specs.Legal.{IsLegal, total_cost}
use Rattle.fleet_model.specs.declared.tables.Tables.{Tables}
use Rattle.dual_bound.specs.Bound.{IsBound, IsInfeasible, IsLowerBound}
use Rattle.dual_bound.specs.Leaves.{has_open, open_nodes, open_pivots, splits_in}
use Rattle.dual_bound.specs.OfTables.{IsOfTables}
use Rattle.dual_bound.specs.WrittenOrder.{InWrittenOrder, IsShallow}
use Rattle.dual_bound.specs.declared.trees.Tree.{Tree}
use Rattle.cert_check.specs.Nodes.{Node, nodes_of_tree}
use Rattle.cert_check.specs.Splits.{IsSplitWorth}
use Rattle.cert_check.specs.Verdicts.{AreSound}
use Rattle.node_bounding.specs.Causes.{AreCaused, zero_prices}
use Rattle.node_bounding.specs.Closing.{closed_by}
use Rattle.node_bounding.specs.Found.{AnswersSole, IsFoundAt, LeavesGap}
use Rattle.node_bounding.specs.Made.{AreMade}
use Rattle.node_bounding.specs.Trims.{IsTrimmed}
use Rattle.node_bounding.specs.Worked.{IsWaitingWorth}
use Rattle.dual_bound.specs.Solved.{plan_cost, tree_of}
use Rattle.dual_bound.specs.declared.solved.Solved.{Solved}
use Rattle.dual_bound.specs.declared.solved.Solved.TheVariants as solved

-- The plan is legal and its cost exact. The bound is the tree's, and no legal assignment undercuts it. It is the
-- cost where no leaf is open, and less where one is.
pub record IsPlanned (t : Tables) (plan : List ℕ) (cost bound : ℤ) (tree : Tree) : Type 0 where
  pub legal : IsLegal t plan
  pub exact : cost ≡ total_cost t plan
  pub of_tree : IsBound t tree (Some bound)
  pub lower : IsLowerBound t bound
  pub closed : has_open tree ≡ false → bound ≡ cost
  pub gap : has_open tree ≡ true → bound <ℤ cost

-- no assignment is legal, no leaf is open, and no leaf has a bound
pub record IsRefuted (t : Tables) (tree : Tree) : Type 0 where
  pub none : IsInfeasible t
  pub closed : has_open tree ≡ false
  pub no_bound : IsBound t tree None

-- a leaf is open; the bound is the tree's, and no legal assignment undercuts it
pub record IsUnsettled (t : Tables) (bound : ℤ) (tree : Tree) : Type 0 where
  pub is_open : has_open tree ≡ true
  pub of_tree : IsBound t tree (Some bound)
  pub lower : IsLowerBound t bound

-- what a solution says of the tables
abbrev pub IsRight : Tables → Solved → Type 0
IsRight t (solved.Planned plan cost bound tree) = IsPlanned t plan cost bound tree
IsRight t (solved.Infeasible tree) = IsRefuted t tree
IsRight t (solved.Unsettled bound tree) = IsUnsettled t bound tree

-- the plan of a solution is found at a leaf of its tree
abbrev pub IsPlanFound : Tables → Solved → Type 0
IsPlanFound t (solved.Planned plan cost bound tree) = Any (IsFoundAt t plan cost) (nodes_of_tree t tree)
IsPlanFound t (solved.Infeasible tree) = ⊤
IsPlanFound t (solved.Unsettled bound tree) = ⊤

-- The tree as the search left it, with so many pivots allowed for each subproblem, whose cheapest plan has this cost. Its
-- nodes keep all rules, its leaves and splits have their causes, its subproblems were made one by one, and in the end open
-- leaves were closed whose rounded worth reaches the cost.
pub record IsLeft (t : Tables) (pivots : Option ℕ) (cost : Option ℤ) (tree : Tree) : Type 0 where
  pub left : Tree
  pub sound : AreSound t cost (all_pairs t) left
  pub caused : AreCaused t pivots (all_pairs t) (zero_prices t) left
  pub made : AreMade t cost left
  pub closed : tree ≡ closed_by t cost left

-- No split has a greater rounded worth than a leaf that is open for splits, or than the plan costs.
pub record IsLeastFirst (t : Tables) (cost : Option ℤ) (tree : Tree) : Type 0 where
  pub waiting : (split leaf : Node) (worth other : ℤ) → Contains (nodes_of_tree t tree) split → Contains (nodes_of_tree t tree) leaf
      → IsSplitWorth t split.keeps split.tree worth → IsWaitingWorth t leaf.keeps leaf.tree other → worth ≤ℤ other
  pub within_cost : (split : Node) (worth : ℤ) → Contains (nodes_of_tree t tree) split → IsSplitWorth t split.keeps split.tree worth → IfSome cost (λ c. worth ≤ℤ c)

-- A tree whose plan, if any, has this cost. It is of the tables, in written order and no deeper than a reader takes,
-- and its nodes keep all rules. It has at most so many splits, and just so many where a leaf is open for them. Leaves
-- and splits have their causes, with so many pivots allowed for each subproblem, or with no budget: then none is open for
-- pivots. Where the one assignment of a leaf is legal, there is a plan that costs no more. The rounded worth of each open leaf is below the plan's cost. The trims are
-- presolve's removals, and below them the subproblem of the least rounded worth is split first.
pub record IsTreeOf (t : Tables) (nodes : ℕ) (pivots : Option ℕ) (cost : Option ℤ) (tree : Tree) : Type 0 where
  pub of_tables : IsOfTables t tree
  pub in_order : InWrittenOrder t tree
  pub shallow : IsShallow tree
  pub sound : AreSound t cost (all_pairs t) tree
  pub few_splits : splits_in tree ≤ nodes
  pub all_spent : 0 < open_nodes tree → splits_in tree ≡ nodes
  pub caused : AreCaused t pivots (all_pairs t) (zero_prices t) tree
  pub no_budget : pivots ≡ None → open_pivots tree ≡ 0
  pub soles : All (AnswersSole t cost) (nodes_of_tree t tree)
  pub gaps : All (LeavesGap t cost) (nodes_of_tree t tree)
  pub trimmed : IsTrimmed t tree
  pub left : IsLeft t pivots cost tree
  pub least_first : IsLeastFirst t cost tree

-- a solution of tables, found with at most so many splits, and so many pivots for each subproblem or with no budget of them
pub record IsSolved (t : Tables) (nodes : ℕ) (pivots : Option ℕ) (s : Solved) : Type 0 where
  pub right : IsRight t s
  pub proved : IsTreeOf t nodes pivots (plan_cost s) (tree_of s)
  pub found : IsPlanFound t s
