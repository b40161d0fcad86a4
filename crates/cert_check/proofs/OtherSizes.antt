-- A tree whose nodes keep all rules but the one on priced leaves, on tables with another number of aircraft of one fleet.
use Rattle.std.proofs.Common.{◌≡◌, ℕ, MatchOption, List, All, Option, Some, None, IfSome, ℤ, refl, sym, subst}
use Rattle.fleet_model.specs.declared.tables.Tables.{Tables}
use Rattle.fleet_model.specs.Kept.{Domains, IsKeptAssignment, IsSole, all_pairs}
use Rattle.fleet_model.specs.Legal.{IsLegal}
use Rattle.fleet_model.specs.OtherSizes.{IsOtherSize}
use Rattle.fleet_model.proofs.OtherSizes.{all_pairs_same, bare_same, kept_same, sole_same}
use Rattle.dual_bound.specs.Bound.{IsBound, IsSoleBound}
use Rattle.dual_bound.specs.Prices.{ArePrices}
use Rattle.dual_bound.specs.declared.prices.Prices.{Prices}
use Rattle.dual_bound.specs.declared.trees.Tree.{Tree}
use Rattle.dual_bound.specs.declared.trees.Tree.TheVariants as tree
use Rattle.dual_bound.proofs.OtherSizes.{prices_same}
use Rattle.cert_check.specs.Nodes.{Node, nodes_in, nodes_of_tree, prices_at}
use Rattle.cert_check.specs.OtherSizes.{Stands}
use Rattle.plan_judge.specs.Sizes.{IsLegalAt}
use Rattle.cert_check.specs.Rules.{IsSoundBut}
use Rattle.cert_check.specs.Splits.{AreSoundButPriced}
use Rattle.cert_check.specs.Verdicts.{BoundsAll}
use Rattle.cert_check.specs.declared.rules.Rule.TheVariants as rule
use Rattle.cert_check.proofs.NodeRules.{if_prices, sole_bound}
use Rattle.cert_check.proofs.TreeBounds.{Bounds, bare_at, bounds_by}
use Rattle.cert_check.proofs.Walks.{node}

-- ---- one node
-- the prices of a node that has them
prices_but : (t : Tables) (one : Node) → IsSoundBut t None rule.Priced one → IfSome (prices_at one.tree) (ArePrices t)
prices_but t one sound =
    if_prices t (prices_at one.tree) (sound.each rule.Scale (λ p. cc)) (sound.each rule.Limits (λ p. cc)) (sound.each rule.Fall (λ p. cc)) (sound.each rule.Rent (λ p. cc))

pub prices_of : (t : Tables) (keeps : Domains) (whole : Tree) (prices : Prices) → prices_at whole ≡ Some prices → IsSoundBut t None rule.Priced (node keeps whole) → ArePrices t prices
prices_of t keeps whole prices e sound = rw e at (prices_but t (node keeps whole) sound)

-- at a leaf with one assignment each leg keeps one choice
pub sole_of : (t : Tables) (keeps : Domains) (whole : Tree) → whole ≡ tree.Sole → IsSoundBut t None rule.Priced (node keeps whole) → IsSole t keeps
sole_of t keeps whole e sound = let here = subst (λ x. IsSoundBut t None rule.Priced (node keeps x)) e sound in here.each rule.Pairs (λ p. cc)

-- ---- on the other tables
module _ (t : Tables) (fleet count : ℕ) (u : Tables) (is : IsOtherSize t fleet count u) where
  -- the cost of the one assignment that is left, where it is legal there
  pub sole_there : (keeps : Domains) (plan : List ℕ) → IsSole t keeps → IsKeptAssignment t keeps plan → (cost : Option ℤ) → MatchOption cost (¬ (IsLegal u plan)) (IsLegalAt u plan) → IsSoleBound u keeps cost
  sole_there keeps plan sole kept cost legal = sole_bound u keeps plan (sole_same t fleet count u is keeps sole) (kept_same t fleet count u is keeps plan kept) cost legal

  prices_there : (o : Option Prices) → IfSome o (ArePrices t) → IfSome o (ArePrices u)
  prices_there None proper = tt
  prices_there (Some prices) proper = prices_same t fleet count u is prices proper

  -- what weak duality asks of a node that stands
  node_there : (one : Node) → IsSoundBut t None rule.Priced one → Stands u one → Bounds u one
  node_there one sound stands = record {
    proper = prices_there (prices_at one.tree) (prices_but t one sound);
    bare = bare_at t u (bare_same t fleet count u is) one.keeps one.tree (sound.each rule.Pairs (λ p. cc));
    refuted = stands;
  }

  -- where all nodes stand, the bound of the tree is one of all legal assignments
  pub bounds_there : (whole : Tree) (bound : Option ℤ) → AreSoundButPriced t (all_pairs t) whole → All (Stands u) (nodes_of_tree u whole) → IsBound u whole bound → BoundsAll u bound
  bounds_there whole bound sound stand bounded = bounds_by u (all_pairs u) whole bound refl (λ k d below. node_there _ (all k d below) (stand k d below)) bounded
    where
      all : All (IsSoundBut t None rule.Priced) (nodes_in (all_pairs u) whole)
      all = subst (λ keeps. All (IsSoundBut t None rule.Priced) (nodes_in keeps whole)) (sym (all_pairs_same t fleet count u is)) sound.each
