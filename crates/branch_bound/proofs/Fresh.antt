-- Subproblems that were just made: none of them is a split, and one that is a leaf or stays open doesn't wait.
use Rattle.std.proofs.Common.{ℕ, List, Option, ℤ}
use Rattle.fleet_model.specs.Kept.{Domains}
use Rattle.fleet_model.specs.declared.tables.Tables.{Tables}
use Rattle.dual_bound.specs.declared.nodes.Node.TheVariants as node
use Rattle.dual_bound.specs.declared.prices.Prices.{Prices}
use Rattle.dual_bound.specs.declared.trees.Cause.{Cause}
use Rattle.dual_bound.specs.declared.trees.Cause.TheVariants as cause
use Rattle.dual_bound.specs.declared.trees.Tree.{Tree}
use Rattle.dual_bound.specs.declared.trees.Tree.TheVariants as tree
use Rattle.node_bounding.specs.Examined.{IsDoneLeaf, IsFresh, IsStoppedBy}
use Rattle.branch_bound.specs.History.{HasItsParts, IsAtLevel, IsReachedNode, IsSingle}
use Rattle.node_bounding.specs.Made.{IsInTurn, WaitsAs}
use Rattle.node_bounding.specs.Subproblems.{node_of}
use Rattle.node_bounding.specs.Worked.{IsOpenWorth, Worked, own_node}
use Rattle.node_bounding.specs.declared.states.State.{State}
use Rattle.node_bounding.specs.declared.states.State.TheVariants as state
use Rattle.branch_bound.specs.declared.subproblems.Subproblem.{Subproblem}

-- ---- subproblems that stay open
pub stopped_waits_not : (t : Tables) (keeps : Domains) (prices : Prices) (why : Cause) (worth : ℤ) → IsStoppedBy why → ¬ (IsOpenWorth t keeps prices why worth)
stopped_waits_not t keeps prices (cause.Nodes mixed) worth stopped open_worth = stopped
stopped_waits_not t keeps prices other worth stopped open_worth = open_worth

pub stopped_level : (t : Tables) (keeps : Domains) (level : Option ℤ) (prices : Prices) (why : Cause) → IsStoppedBy why → IsAtLevel t level keeps (node.Open prices why)
stopped_level t keeps level prices why stopped = λ worth open_worth. absurd (stopped_waits_not t keeps prices why worth stopped open_worth)

-- ---- leaves
-- by the kinds of leaves of one node
of_done : (P : Tree → Type 0) → ((leg : ℕ) → P (tree.Bare leg)) → P tree.Sole → ((prices : Prices) → P (tree.Refuted prices)) → ((prices : Prices) → P (tree.Priced prices)) → (leaf : Tree) → IsDoneLeaf leaf → P leaf
of_done P bare sole refuted priced (tree.Bare leg) done = bare leg
of_done P bare sole refuted priced tree.Sole done = sole
of_done P bare sole refuted priced (tree.Refuted prices) done = refuted prices
of_done P bare sole refuted priced (tree.Priced prices) done = priced prices
of_done P bare sole refuted priced other done = absurd done

module _ (t : Tables) (keeps : Domains) where
  pub leaf_waits_not : (leaf : Tree) (parts number : ℕ) (worth : ℤ) → IsDoneLeaf leaf → ¬ (WaitsAs t keeps (own_node leaf) parts number worth)
  leaf_waits_not leaf parts number worth done =
      of_done (λ x. ¬ (WaitsAs t keeps (own_node x) parts number worth)) (λ leg waits. waits) (λ waits. waits) (λ prices waits. waits) (λ prices waits. waits) leaf done

  pub leaf_level : (level : Option ℤ) (leaf : Tree) → IsDoneLeaf leaf → IsAtLevel t level keeps (own_node leaf)
  leaf_level level leaf done = of_done (λ x. IsAtLevel t level keeps (own_node x)) (λ leg. tt) tt (λ prices. tt) (λ prices. tt) leaf done

  pub leaf_reached : (cost : Option ℤ) (leaf : Tree) → IsDoneLeaf leaf → IsReachedNode t cost keeps (own_node leaf)
  leaf_reached cost leaf done = of_done (λ x. IsReachedNode t cost keeps (own_node x)) (λ leg. tt) tt (λ prices. tt) (λ prices. tt) leaf done

module _ (t : Tables) (count : ℕ) (made : ℕ → Worked) (found : ℕ → Option ℤ) (parts : ℕ → ℕ) (k : ℕ) where
  leaf_turn : (leaf : Tree) → IsDoneLeaf leaf → IsInTurn t count made found parts k (own_node leaf)
  leaf_turn leaf done = of_done (λ x. IsInTurn t count made found parts k (own_node x)) (λ leg. tt) tt (λ prices. tt) (λ prices. tt) leaf done

  -- ---- all that were just made
  pub fresh_turn : (s : State) → IsFresh s → IsInTurn t count made found parts k (node_of s)
  fresh_turn (state.Leaf leaf) fresh = leaf_turn leaf fresh
  fresh_turn (state.Split f) fresh = absurd fresh
  fresh_turn other fresh = tt

pub fresh_parts : (all : List Subproblem) (parts : ℕ → ℕ) (k : ℕ) (s : State) → IsFresh s → HasItsParts all parts k s
fresh_parts all parts k (state.Split f) fresh = absurd fresh
fresh_parts all parts k other fresh = tt

pub fresh_single : (s : State) → IsFresh s → IsSingle s
fresh_single (state.Waiting f) fresh = tt
fresh_single (state.Split f) fresh = absurd fresh
fresh_single other fresh = fresh
