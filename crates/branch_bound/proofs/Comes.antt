-- What a search comes to, once nothing more is split.
use Rattle.std.proofs.Common.{◌≡◌, ℕ, zero, suc, ◌+◌, ◌<◌, List, [], ◌∷◌, ◌++◌, All, length, Option, inl, inr, ◌⊎◌, refl, sym, ◌∙◌, ap, subst, arith}
use Rattle.std.specs.List.Sorted.{IsPermutation}
use Rattle.std.proofs.lemmas.List.Elements.{All-contains}
use Rattle.std.proofs.lemmas.List.Sorted.{IsPermutation-refl}
use Rattle.sums.specs.Places.{list_below}
use Rattle.sums.proofs.Places.{list_below-more}
use Rattle.fleet_model.specs.Kept.{Domains}
use Rattle.fleet_model.specs.declared.tables.Tables.{Tables}
use Rattle.plan_judge.specs.declared.legal_plans.LegalPlan.{LegalPlan}
use Rattle.dual_bound.specs.declared.trees.Tree.{Tree}
use Rattle.dual_bound.specs.declared.trees.Tree.TheVariants as tree
use Rattle.node_bounding.specs.Examined.{IsDoneLeaf}
use Rattle.branch_bound.specs.Growing.{AreGathered, AreSingle, AreSplitsLinked, gathered, gathered_at}
use Rattle.branch_bound.specs.History.{Chronicle, IsGrownTree, IsReachedNode, IsRightAt, IsSearchDone, IsSingle, SearchComesTo, prices_above}
use Rattle.branch_bound.specs.Ranks.{IsOver, IsReachedBy, IsWaitingAt}
use Rattle.node_bounding.specs.Subproblems.{IsFractional, IsRightState, cost_of_plan, node_of}
use Rattle.branch_bound.specs.Search.{at}
use Rattle.node_bounding.specs.Worked.{Worked, own_node, worked_in}
use Rattle.branch_bound.specs.declared.search.Search.{Search}
use Rattle.node_bounding.specs.declared.states.State.{State}
use Rattle.node_bounding.specs.declared.states.State.TheVariants as state
use Rattle.branch_bound.specs.declared.subproblems.Subproblem.{Subproblem}
use Rattle.branch_bound.proofs.Fresh.{leaf_reached, stopped_waits_not}
use Rattle.node_bounding.proofs.Orders.{no_more_same, one_ceiling}

-- ---- each subproblem by itself
single_leaf : (keeps : Domains) (leaf : Tree) → IsDoneLeaf leaf → worked_in keeps leaf ≡ record { keeps = keeps; node = own_node leaf } ∷ []
single_leaf keeps (tree.Trim' leg choice p with_pair q without) done = absurd done
single_leaf keeps (tree.Split' leg choice prices mixed p with_pair q without) done = absurd done
single_leaf keeps other done = refl

single_gathered : (keeps : Domains) (s : State) → IsSingle s → gathered_at keeps s ≡ record { keeps = keeps; node = node_of s } ∷ []
single_gathered keeps (state.Leaf leaf) single = single_leaf keeps leaf single
single_gathered keeps other single = refl

all_gathered : (made : ℕ → Worked) (all : List Subproblem) (n : ℕ) → ((k : ℕ) → k < n → IsSingle (at all k).state) → ((k : ℕ) → k < n → (made k).node ≡ node_of (at all k).state) → list_below made n ≡ gathered made all n
unfolding gathered
all_gathered made all zero singles nodes = refl
all_gathered made all (suc n) singles nodes =
    let before = all_gathered made all n (λ k less. singles k (omega (arith, less))) (λ k less. nodes k (omega (arith, less))) in
    let own : gathered_at (made n).keeps (at all n).state ≡ made n ∷ [] =
    single_gathered (made n).keeps (at all n).state (singles n (omega arith)) ∙ ap (λ m. record { keeps = (made n).keeps; node = m } ∷ []) (sym (nodes n (omega arith))) in
    ap (list_below made) one_more ∙ list_below-more made n ∙ ap (λ ws. ws ++ made n ∷ []) before ∙ ap (λ ws. gathered made all n ++ ws) (sym own)
  where
    one_more : suc n ≡ n + 1
    one_more = omega arith

module _ (t : Tables) (nodes : ℕ) (pivots : Option ℕ) (root : Domains) (s : Search) (done : IsSearchDone t nodes pivots root s) where
  abbrev all : List Subproblem
  all = s.made.items

  abbrev c : Chronicle
  c = done.search.chronicle

  pub linked : AreSplitsLinked s.made.items
  linked = record { some = omega (arith, done.search.count); parts = done.search.chronicle.parts; each = λ k less. (done.search.numbered k less).linked }

  pub singles : AreSingle s.made.items
  singles = record { each = done.search.singles }

  pub gathers : AreGathered t root pivots (cost_of_plan s.best) (length s.made.items) done.search.chronicle s.made.items
  gathers = record {
    numbered = done.search.numbered;
    right = λ k below. subst (λ p. IsRightAt t p (cost_of_plan s.best) all c k) done.pivots_allowed (done.search.right (cost_of_plan s.best) (no_more_same (cost_of_plan s.best)) k below);
    same = subst (IsPermutation (list_below c.made (length all))) (all_gathered c.made all (length all) done.search.singles (λ k less. (done.search.numbered k less).node)) (IsPermutation-refl (list_below c.made (length all)));
  }

  -- a subproblem that waits has a rounded worth that is reached
  reached : All (IsReachedBy s) s.waiting.keys → (k : ℕ) (x : State) → k < length all → (at all k).state ≡ x → IsSingle x → IsReachedNode t (cost_of_plan s.best) (c.made k).keeps (node_of x)
  reached ranks k (state.Leaf leaf) below own single = leaf_reached t (c.made k).keeps (cost_of_plan s.best) leaf single
  reached ranks k (state.Stopped x) below own single = λ worth rounded. absurd (stopped_waits_not t (c.made k).keeps x.prices x.why worth single rounded)
  reached ranks k (state.Waiting f) below own single = λ worth rounded.
      let fraction : IsFractional t (c.made k).keeps f = subst (λ x. IsRightState t s.pivots (cost_of_plan s.best) (c.made k).keeps (prices_above t c.made (at all k).origin) x) own (done.search.right (cost_of_plan s.best) (no_more_same (cost_of_plan s.best)) k below) in
      let same : f.worth ≡ worth = one_ceiling _ _ f.worth worth fraction.split.best.good.proper.scale.some fraction.rounded rounded in
      (All-contains (IsReachedBy s) s.waiting.keys (record { worth = worth; number = k }) ranks (done.search.ranks.every k worth below (subst (λ x. IsWaitingAt x worth) (sym own) same))).cost
  reached ranks k (state.Split f) below own single = tt

  over : IsOver s → (s.splits ≡ nodes) ⊎ ((k : ℕ) → k < length all → IsReachedNode t (cost_of_plan s.best) (c.made k).keeps (c.made k).node)
  over (inl spent) = inl (omega (arith, spent, done.search.within, done.splits_allowed))
  over (inr ranks) = inr (λ k below. subst (IsReachedNode t (cost_of_plan s.best) (c.made k).keeps) (sym (done.search.numbered k below).node) (reached ranks k (at all k).state below refl (done.search.singles k below)))

  pub comes : (best : Option LegalPlan) (tree : Tree) → best ≡ s.best → IsGrownTree t root pivots (cost_of_plan s.best) (length s.made.items) done.search.chronicle tree → SearchComesTo t nodes pivots root best tree
  comes best tree same grown = subst (λ b. SearchComesTo t nodes pivots root b tree) (sym same) (record {
    plan = done.search.plan;
    splits = s.splits;
    few = omega (arith, done.search.within, done.splits_allowed);
    count = length all;
    twice = done.search.count;
    chronicle = c;
    told = done.search.told;
    grown = grown;
    over = over done.over;
  })
