-- What is answered of a tree that was found in any way.
use Rattle.std.specs.Prelude.{◌≡◌, ℕ, ◌≤◌, true, All, Option, ℤ}
use Rattle.fleet_model.specs.Kept.{all_pairs}
use Rattle.fleet_model.specs.declared.tables.Tables.{Tables}
use Rattle.dual_bound.specs.Leaves.{has_open, open_grew, open_pivots, splits_in}
use Rattle.dual_bound.specs.OfTables.{IsOfTables}
use Rattle.dual_bound.specs.Solved.{plan_cost, tree_of}
use Rattle.dual_bound.specs.WrittenOrder.{InWrittenOrder, IsShallow}
use Rattle.dual_bound.specs.declared.solved.Solved.{Solved}
use Rattle.dual_bound.specs.declared.trees.Tree.{Tree}
use Rattle.cert_check.specs.Nodes.{nodes_of_tree}
use Rattle.cert_check.specs.Verdicts.{AreSound}
use Rattle.node_bounding.specs.Found.{AnswersSole, LeavesGap}
use Rattle.branch_bound.specs.Solved.{IsRight}

-- A tree whose plan, if any, has this cost. It is of the tables, in written order and no deeper than a reader takes, and its
-- nodes keep all rules. It has at most so many splits, and just so many where any leaf is open; a leaf is open for splits
-- alone. Where the one assignment of a leaf is legal, there is a plan that costs no more. The rounded worth of each open leaf
-- is below the plan's cost. Nothing is said of the order in which its subproblems were made, nor of where its plan was found.
pub record IsFreeTreeOf (t : Tables) (nodes : ℕ) (cost : Option ℤ) (tree : Tree) : Type 0 where
  pub of_tables : IsOfTables t tree
  pub in_order : InWrittenOrder t tree
  pub shallow : IsShallow tree
  pub sound : AreSound t cost (all_pairs t) tree
  pub few_splits : splits_in tree ≤ nodes
  pub all_spent : has_open tree ≡ true → splits_in tree ≡ nodes
  pub no_pivots : open_pivots tree ≡ 0
  pub none_grew : open_grew tree ≡ 0
  pub soles : All (AnswersSole t cost) (nodes_of_tree t tree)
  pub gaps : All (LeavesGap t cost) (nodes_of_tree t tree)

-- a solution of tables by a tree of at most so many splits, found in any way
pub record IsFreelySolved (t : Tables) (nodes : ℕ) (s : Solved) : Type 0 where
  pub right : IsRight t s
  pub proved : IsFreeTreeOf t nodes (plan_cost s) (tree_of s)
