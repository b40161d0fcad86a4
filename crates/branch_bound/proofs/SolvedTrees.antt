-- The tree of all pairs when the search is over, closed by the cheapest plan.
use Rattle.std.proofs.Common.{◌≡◌, ℕ, ◌<◌, ◌≤◌, List, All, Option, Some, None, IfSome, IsSomeAnd, ℤ, ◌≤ℤ◌, inl, inr, ◌⊎◌, refl, sym, ◌∙◌, ap, subst, arith}
use Rattle.std.specs.List.{Any}
use Rattle.std.specs.List.Sorted.{IsPermutation}
use Rattle.std.proofs.lemmas.Int.{ints}
use Rattle.std.proofs.lemmas.List.Elements.{All-contains}
use Rattle.sums.specs.Places.{list_below}
use Rattle.fleet_model.specs.Kept.{Domains, all_pairs}
use Rattle.fleet_model.specs.declared.tables.Tables.{Tables}
use Rattle.fleet_model.proofs.LeftOut.{all_keep_left_out, steps_are_few}
use Rattle.plan_judge.specs.declared.legal_plans.LegalPlan.{LegalPlan}
use Rattle.dual_bound.specs.Leaves.{depth_of, open_nodes, open_pivots, splits_in}
use Rattle.dual_bound.specs.declared.trees.TheConstants.{MAX_DEPTH}
use Rattle.dual_bound.specs.OfTables.{IsOfTables}
use Rattle.dual_bound.specs.declared.nodes.Node.{Node}
use Rattle.dual_bound.specs.declared.nodes.Node.TheVariants as ordered
use Rattle.dual_bound.specs.declared.prices.Prices.{Prices}
use Rattle.dual_bound.specs.declared.trees.Tree.{Tree}
use Rattle.dual_bound.specs.declared.trees.Tree.TheVariants as tree
use Rattle.cert_check.specs.Nodes.{Node as TreeNode, nodes_in, nodes_of_tree}
use Rattle.cert_check.specs.Verdicts.{AreSound}
use Rattle.presolve.specs.Removals.{kept_after}
use Rattle.node_bounding.proofs.NoBudget.{none_spent}
use Rattle.node_bounding.specs.Causes.{AreCaused, zero_prices}
use Rattle.node_bounding.specs.Closing.{closed, closed_by}
use Rattle.node_bounding.specs.Found.{AnswersSole, IsEndOf, IsFoundAt, LeavesGap}
use Rattle.branch_bound.specs.History.{IsAtLevel, IsGrownTree, IsPlanPlaced, IsReachedNode}
use Rattle.node_bounding.specs.Made.{AreMade}
use Rattle.node_bounding.specs.Subproblems.{IsPart, cost_of_plan}
use Rattle.branch_bound.specs.Settled.{IsAllFound, IsProvedBy, plan_of}
use Rattle.branch_bound.specs.Solved.{IsLeastFirst, IsLeft, IsRight, IsSolved, IsTreeOf}
use Rattle.dual_bound.specs.Solved.{tree_of}
use Rattle.node_bounding.specs.Trims.{IsTrimmed}
use Rattle.node_bounding.specs.Worked.{own_node, worked_at}
use Rattle.dual_bound.specs.declared.solved.Solved.{Solved}
use Rattle.dual_bound.specs.declared.solved.Solved.TheVariants as solved
use Rattle.branch_bound.proofs.AllNodes.{all_below, all_closed, any_below, at_node, at_nodes, nodes_twice, none_open, searched_below, split_level, splits_below, waiting_level}
use Rattle.node_bounding.proofs.Closings.{closed_caused, closed_depth, closed_gaps, closed_known, closed_order, closed_soles, closed_sound, closed_splits, closed_trimmed, found_closed}
use Rattle.node_bounding.proofs.RemovedPairs.{below_part, on_top}

-- without a plan nothing is below a cost
no_gaps : (t : Tables) (nodes : List TreeNode) → All (LeavesGap t None) nodes
no_gaps t nodes k d below = record { gap = λ prices why e. tt }

-- no split passes a level, which each leaf that is open for splits reaches, and the cost of the plan
level_between : (x y : ℤ) (level : Option ℤ) → IsSomeAnd level (λ l. x ≤ℤ l) → IfSome level (λ l. l ≤ℤ y) → x ≤ℤ y
level_between x y None up low = absurd up
level_between x y (Some l) up low = omega (arith, ints, up, low)

level_cost : (x : ℤ) (level cost : Option ℤ) → IsSomeAnd level (λ l. x ≤ℤ l) → IfSome level (λ l. IfSome cost (λ c. l ≤ℤ c)) → IfSome cost (λ c. x ≤ℤ c)
level_cost x None cost up low = absurd up
level_cost x (Some l) None up low = tt
level_cost x (Some l) (Some c) up low = omega (arith, ints, up, low)

least_first : (t : Tables) (level cost : Option ℤ) (whole : Tree) → IfSome level (λ l. IfSome cost (λ c. l ≤ℤ c)) → All (λ x. IsAtLevel t level x.keeps (own_node x.tree)) (nodes_of_tree t whole) → IsLeastFirst t cost whole
least_first t level cost whole low all = record {
  waiting = λ split leaf worth other in_split in_leaf its own.
      level_between worth other level (split_level t level split.keeps split.tree worth (All-contains (λ x. IsAtLevel t level x.keeps (own_node x.tree)) (nodes_of_tree t whole) split all in_split) its)
      (waiting_level t level leaf.keeps leaf.tree other (All-contains (λ x. IsAtLevel t level x.keeps (own_node x.tree)) (nodes_of_tree t whole) leaf all in_leaf) own);
  within_cost = λ split worth in_split its.
      level_cost worth level cost (split_level t level split.keeps split.tree worth (All-contains (λ x. IsAtLevel t level x.keeps (own_node x.tree)) (nodes_of_tree t whole) split all in_split) its) low;
}

module _ (t : Tables) (nodes : ℕ) (pivots : Option ℕ) (best : Option LegalPlan) (whole : Tree) (is : IsAllFound t nodes pivots best whole) where
  abbrev root : Domains
  root = kept_after (all_pairs t) is.removals

  grown : IsGrownTree t root pivots (cost_of_plan best) is.comes.count is.comes.chronicle is.rest
  grown = is.comes.grown

  -- ---- the tree before it is closed
  all_part : IsPart t pivots (cost_of_plan best) (all_pairs t) (zero_prices t) whole
  all_part = below_part t pivots (cost_of_plan best) (all_pairs t) (zero_prices t) is.removals is.rest whole (all_keep_left_out t) is.refuted is.below grown.part

  pub sound : AreSound t (cost_of_plan best) (all_pairs t) whole
  sound = all_part.sound

  pub known : IsOfTables t whole
  known = all_part.of_tables

  trimmed : IsTrimmed t whole
  trimmed = record { removals = is.removals; given = is.given; on_top = on_top t (all_pairs t) is.removals is.rest whole is.below grown.searched }

  shallow : depth_of whole ≤ MAX_DEPTH
  shallow = omega (arith, all_part.shallow, steps_are_few t)

  splits_are : splits_in whole ≡ is.comes.splits
  splits_are =
      splits_below is.removals is.rest whole is.below
      ∙ nodes_twice is.comes.chronicle.made is.comes.count root is.rest grown.all t is.comes.splits grown.searched is.comes.twice

  few : splits_in whole ≤ nodes
  few = omega (arith, splits_are, is.comes.few)

  are_made : AreMade t (cost_of_plan best) whole
  are_made = record {
    count = is.comes.count;
    made = is.comes.chronicle.made;
    found = is.comes.chronicle.found;
    parts = is.comes.chronicle.parts;
    all = subst (IsPermutation (list_below is.comes.chronicle.made is.comes.count)) (sym (searched_below t (all_pairs t) is.removals is.rest whole is.below grown.searched)) grown.all;
    each = is.comes.told.each;
    turns = is.comes.told.turns;
    best = is.comes.told.cheapest;
  }

  is_left : IsLeft t pivots (cost_of_plan best) (closed_by t (cost_of_plan best) whole)
  is_left = record { left = whole; sound = sound; caused = all_part.caused; made = are_made; closed = refl }

  -- what holds of each subproblem that was made holds of all nodes
  at_all : (P : Domains → Node → Type 0) → ((d : Domains) (prices : Prices) → P d (own_node (tree.Refuted prices))) → ((d : Domains) (leg choice : ℕ) → P d (ordered.Trim leg choice))
      → ((k : ℕ) → k < is.comes.count → P (is.comes.chronicle.made k).keeps (is.comes.chronicle.made k).node) → All (λ x. P x.keeps (own_node x.tree)) (nodes_of_tree t whole)
  at_all P refuted trim each =
      all_below (λ x. P x.keeps (own_node x.tree)) refuted (λ d x leg choice first second e. subst (λ y. P d (own_node y)) (sym e) (trim d leg choice)) (all_pairs t) is.removals is.rest whole is.below
      (at_nodes is.comes.chronicle.made is.comes.count root is.rest grown.all (λ w. P w.keeps w.node) each)

  levels : All (λ x. IsAtLevel t is.comes.chronicle.level x.keeps (own_node x.tree)) (nodes_of_tree t whole)
  levels = at_all (IsAtLevel t is.comes.chronicle.level) (λ d prices. tt) (λ d leg choice. tt) is.comes.told.levels

  -- ---- once it is closed
  spent_or_closed : (cost : Option ℤ) → cost ≡ cost_of_plan best → (done : Tree) → AreSound t cost (all_pairs t) done → All (LeavesGap t cost) (nodes_of_tree t done)
      → (All (λ x. IsReachedNode t cost x.keeps (own_node x.tree)) (nodes_of_tree t whole) → All (λ x. IsReachedNode t cost x.keeps (own_node x.tree)) (nodes_of_tree t done)) → splits_in done ≡ splits_in whole
      → 0 < open_nodes done → splits_in done ≡ nodes
  spent_or_closed cost same done fine gaps carry splits some = by_end is.comes.over
    where
      by_end : (is.comes.splits ≡ nodes) ⊎ ((k : ℕ) → k < is.comes.count → IsReachedNode t (cost_of_plan best) (is.comes.chronicle.made k).keeps (is.comes.chronicle.made k).node) → splits_in done ≡ nodes
      by_end (inl spent) = splits ∙ splits_are ∙ spent
      by_end (inr reached) =
          let before : All (λ x. IsReachedNode t cost x.keeps (own_node x.tree)) (nodes_of_tree t whole) = at_all (IsReachedNode t cost) (λ d prices. tt) (λ d leg choice. tt) (subst (λ c. (k : ℕ) → k < is.comes.count → IsReachedNode t c (is.comes.chronicle.made k).keeps (is.comes.chronicle.made k).node) (sym same) reached) in
          absurd (omega (arith, some, none_open t cost (all_pairs t) done fine gaps (carry before)))

  -- with no budget
  none_for_pivots : (done : Tree) → AreCaused t pivots (all_pairs t) (zero_prices t) done → pivots ≡ None → open_pivots done ≡ 0
  none_for_pivots done caused none = none_spent t (all_pairs t) (zero_prices t) done (subst (λ p. AreCaused t p (all_pairs t) (zero_prices t) done) none caused)

  pub tree_by : (own : Option LegalPlan) → best ≡ own → IsTreeOf t nodes pivots (cost_of_plan own) (closed_by t (cost_of_plan own) whole)
  tree_by None same =
      let cost : None ≡ cost_of_plan best = sym (ap cost_of_plan same) in
      let fine : AreSound t None (all_pairs t) whole = subst (λ c. AreSound t c (all_pairs t) whole) (sym cost) sound in
      record {
        of_tables = all_part.of_tables;
        in_order = all_part.in_order;
        shallow = shallow;
        sound = fine;
        few_splits = few;
        all_spent = spent_or_closed None cost whole fine (no_gaps t (nodes_of_tree t whole)) (λ all. all) refl;
        caused = all_part.caused;
        no_budget = none_for_pivots whole all_part.caused;
        soles = subst (λ c. All (AnswersSole t c) (nodes_of_tree t whole)) (sym cost) all_part.soles;
        gaps = no_gaps t (nodes_of_tree t whole);
        trimmed = trimmed;
        left = subst (λ c. IsLeft t pivots c (closed_by t c whole)) (sym cost) is_left;
        least_first = subst (λ c. IsLeastFirst t c whole) (sym cost) (least_first t is.comes.chronicle.level (cost_of_plan best) whole is.comes.told.cost_from levels);
      }
  tree_by (Some plan) same =
      let cost : Some plan.cost ≡ cost_of_plan best = sym (ap cost_of_plan same) in
      let fine : AreSound t (Some plan.cost) (all_pairs t) whole = subst (λ c. AreSound t c (all_pairs t) whole) (sym cost) sound in
      let splits = closed_splits t plan.cost (all_pairs t) whole in
      let gaps = closed_gaps t plan.cost (all_pairs t) whole fine in
      let shut = closed_sound t plan.cost (all_pairs t) whole fine in
      record {
        of_tables = closed_known t plan.cost (all_pairs t) whole all_part.of_tables;
        in_order = closed_order t plan.cost (all_pairs t) whole all_part.in_order;
        shallow = omega (arith, shallow, closed_depth t plan.cost (all_pairs t) whole);
        sound = shut;
        few_splits = omega (arith, few, splits);
        all_spent = spent_or_closed (Some plan.cost) cost (closed t plan.cost (all_pairs t) whole) shut gaps (all_closed t plan.cost (IsReachedNode t (Some plan.cost)) (λ d prices why reached. tt) (all_pairs t) whole) splits;
        caused = closed_caused t plan.cost pivots (all_pairs t) (zero_prices t) whole all_part.caused;
        no_budget = none_for_pivots (closed t plan.cost (all_pairs t) whole) (closed_caused t plan.cost pivots (all_pairs t) (zero_prices t) whole all_part.caused);
        soles = closed_soles t plan.cost (all_pairs t) whole (subst (λ c. All (AnswersSole t c) (nodes_of_tree t whole)) (sym cost) all_part.soles);
        gaps = gaps;
        trimmed = closed_trimmed t plan.cost whole trimmed;
        left = subst (λ c. IsLeft t pivots c (closed_by t c whole)) (sym cost) is_left;
        least_first = least_first t is.comes.chronicle.level (Some plan.cost) (closed t plan.cost (all_pairs t) whole) (subst (λ c. IfSome is.comes.chronicle.level (λ l. IfSome c (λ x. l ≤ℤ x))) (sym cost) is.comes.told.cost_from)
            (all_closed t plan.cost (IsAtLevel t is.comes.chronicle.level) (λ d prices why at. tt) (all_pairs t) whole levels);
      }

  pub proved_by : IsProvedBy t best (closed_by t (cost_of_plan best) whole)
  proved_by =
      let tree = tree_by best refl in
      record { plan = is.comes.plan; known = tree.of_tables; sound = tree.sound; soles = tree.soles; gaps = tree.gaps }

  -- the plan is found in the closed tree
  found_by : (plan : LegalPlan) → best ≡ Some plan → Any (IsFoundAt t plan.assignment plan.cost) (nodes_of_tree t (closed t plan.cost (all_pairs t) whole))
  found_by plan same =
      let place : IsPlanPlaced t plan is.comes.count is.comes.chronicle = subst (λ b. IfSome b (λ p. IsPlanPlaced t p is.comes.count is.comes.chronicle)) same is.comes.told.place in
      found_closed t plan.cost plan.assignment plan.cost (all_pairs t) whole
      (any_below (IsFoundAt t plan.assignment plan.cost) (all_pairs t) is.removals is.rest whole is.below
      (found_here (at_node is.comes.chronicle.made is.comes.count root is.rest grown.all (IsEndOf t plan.assignment plan.cost) place.number place.within place.end)))
    where
      found_here : Any (λ x. IsEndOf t plan.assignment plan.cost (worked_at x)) (nodes_in root is.rest) → Any (IsFoundAt t plan.assignment plan.cost) (nodes_in root is.rest)
      found_here (k, x, below, at_k, end) = (k, x, below, at_k, record { here = end })

  pub solved_by : (s : Solved) → IsRight t s → plan_of s ≡ best → tree_of s ≡ closed_by t (cost_of_plan best) whole → IsSolved t nodes pivots s
  solved_by (solved.Planned plan cost bound tree) right plan_is tree_is =
      let own : best ≡ Some (record { assignment = plan; cost = cost }) = sym plan_is in
      let closed_is : tree ≡ closed t cost (all_pairs t) whole = tree_is ∙ ap (λ b. closed_by t (cost_of_plan b) whole) (sym plan_is) in
      record {
        right = right;
        proved = subst (IsTreeOf t nodes pivots (Some cost)) (sym closed_is) (tree_by (Some (record { assignment = plan; cost = cost })) own);
        found = subst (λ x. Any (IsFoundAt t plan cost) (nodes_of_tree t x)) (sym closed_is) (found_by (record { assignment = plan; cost = cost }) own);
      }
  solved_by (solved.Infeasible tree) right plan_is tree_is =
      let closed_is : tree ≡ whole = tree_is ∙ ap (λ b. closed_by t (cost_of_plan b) whole) (sym plan_is) in
      record { right = right; proved = subst (IsTreeOf t nodes pivots None) (sym closed_is) (tree_by None (sym plan_is)); found = tt }
  solved_by (solved.Unsettled bound tree) right plan_is tree_is =
      let closed_is : tree ≡ whole = tree_is ∙ ap (λ b. closed_by t (cost_of_plan b) whole) (sym plan_is) in
      record { right = right; proved = subst (IsTreeOf t nodes pivots None) (sym closed_is) (tree_by None (sym plan_is)); found = tt }
