-- The search of the first subproblem alone.
use Rattle.std.proofs.Common.{◌≡◌, ℕ, ◌<◌, List, [], ◌∷◌, ◌++◌, length, Option, Some, None, IfSome, inl, inr, ◌⊎◌, refl, sym, ◌∙◌, ap, subst, arith}
use Rattle.std.specs.List.{Contains}
use Rattle.std.proofs.lemmas.List.Elements.{All-nil}
use Rattle.fleet_model.specs.Kept.{Domains}
use Rattle.fleet_model.specs.Whole.{KeepAllowed}
use Rattle.fleet_model.specs.declared.tables.Tables.{Tables}
use Rattle.plan_judge.specs.LegalPlans.{IsLegalPlan}
use Rattle.plan_judge.specs.declared.legal_plans.LegalPlan.{LegalPlan}
use Rattle.dual_bound.specs.declared.prices.Prices.{Prices}
use Rattle.node_bounding.specs.Causes.{zero_prices}
use Rattle.node_bounding.specs.Examined.{IsExamined, IsFoundHere, IsFresh}
use Rattle.branch_bound.specs.History.{Chronicle, IsAtLevel, IsChronicleTold, IsNumbered, IsPlanPlaced, IsPut, IsRightAt, IsSearch, IsSingle}
use Rattle.branch_bound.specs.Ranks.{AreRanks, IsRankIn, IsWaitingAt, ranks_with}
use Rattle.node_bounding.specs.Subproblems.{IsNoMore, IsRightState, cost_of_plan, node_of}
use Rattle.branch_bound.specs.Search.{at}
use Rattle.branch_bound.specs.declared.search.Search.{Search}
use Rattle.node_bounding.specs.declared.states.State.{State}
use Rattle.node_bounding.specs.declared.states.State.TheVariants as state
use Rattle.branch_bound.specs.declared.subproblems.Subproblem.{Subproblem}
use Rattle.branch_bound.proofs.Fresh.{fresh_parts, fresh_single, fresh_turn, leaf_level}
use Rattle.branch_bound.proofs.Ranking.{all_with, inserted_with}

-- before any split there is no level
no_level : (t : Tables) (keeps : Domains) (s : State) → IsFresh s → IsAtLevel t None keeps (node_of s)
no_level t keeps (state.Leaf leaf) fresh = leaf_level t keeps None leaf fresh
no_level t keeps (state.Split f) fresh = absurd fresh
no_level t keeps other fresh = λ worth rounded. tt

module _ (t : Tables) (root : Domains) (best : Option LegalPlan) (before after : Search) (above : Prices) (one : State) (allowed : KeepAllowed t root) (above_is : above ≡ zero_prices t)
    (best_is : before.best ≡ best) (splits_is : before.splits ≡ 0) (made_is : before.made.items ≡ []) (keys_is : before.waiting.keys ≡ [])
    (is : IsExamined t before.pivots None best root above one) (put : IsPut before after None one) where
  abbrev begins : Chronicle
  begins = record { made = λ k. record { keeps = root; node = node_of one }; found = λ k. is.found; parts = λ k. 0; level = None }

  abbrev only : List Subproblem
  only = record { origin = None; state = one } ∷ []

  all_is : after.made.items ≡ only
  all_is = put.made ∙ ap (λ xs. xs ++ only) made_is

  -- of the one number below 1
  at_first : (P : ℕ → Type 0) → P 0 → (k : ℕ) → k < 1 → P k
  at_first P here k less = let same : k ≡ 0 = omega (arith, less) in subst P (sym same) here

  told : IsChronicleTold t best 1 begins
  told = record {
    each = at_first _ is.is;
    turns = at_first _ (fresh_turn t 1 begins.made begins.found begins.parts 0 one is.fresh);
    cheapest = is.cheapest;
    levels = at_first _ (no_level t root one is.fresh);
    cost_from = tt;
    place = by_place is.place;
  }
    where
      at_here : (x : Option LegalPlan) → IsFoundHere t root (node_of one) x → IfSome x (λ plan. IsPlanPlaced t plan 1 begins)
      at_here None here = tt
      at_here (Some plan) here = record { number = 0; within = omega arith; end = here }

      by_place : (best ≡ None) ⊎ IsFoundHere t root (node_of one) best → IfSome best (λ plan. IsPlanPlaced t plan 1 begins)
      by_place (inl same) = subst (λ x. IfSome x (λ plan. IsPlanPlaced t plan 1 begins)) (sym same) tt
      by_place (inr here) = at_here best here

  numbered : (k : ℕ) → k < 1 → IsNumbered t root only begins k
  numbered = at_first (λ k. IsNumbered t root only begins k) (record { linked = record { from = refl; own = fresh_parts only (λ k. 0) 0 one is.fresh }; node = refl; keeps = refl; allowed = allowed })

  ranks : AreRanks only (ranks_with [] 0 one)
  ranks = record {
    each = all_with (IsRankIn only) [] 0 one (All-nil (IsRankIn only)) (λ worth waits. record { within = omega arith; waits = waits });
    every = λ k worth less. at_first (λ k. IsWaitingAt (at only k).state worth → Contains (ranks_with [] 0 one) (record { worth = worth; number = k })) (inserted_with [] 0 one worth) k less;
  }

  pub first_search : IsSearch t root after
  first_search =
      let best_after : after.best ≡ best = put.best ∙ best_is in
      let count : length after.made.items ≡ 1 = ap length all_is in
      record {
        plan = subst (λ x. IfSome x (IsLegalPlan t)) (sym best_after) is.plan;
        within = omega (arith, put.splits, splits_is);
        count = omega (arith, count, put.splits, splits_is);
        chronicle = begins;
        told = subst (λ x. IsChronicleTold t x (length after.made.items) begins) (sym best_after) (subst (λ n. IsChronicleTold t best n begins) (sym count) told);
        numbered = λ k below. subst (λ xs. IsNumbered t root xs begins k) (sym all_is) (numbered k (subst (λ n. k < n) count below));
        right = λ final less k below.
            subst (λ p. IsRightAt t p final after.made.items begins k) (sym put.pivots) (subst (λ xs. IsRightAt t before.pivots final xs begins k) (sym all_is)
            (at_first (λ k. IsRightAt t before.pivots final only begins k) (subst (λ p. IsRightState t before.pivots final root p one) above_is (is.right final (subst (λ x. IsNoMore (cost_of_plan x) final) best_after less))) k (subst (λ n. k < n) count below)));
        singles = λ k below. subst (λ xs. IsSingle (at xs k).state) (sym all_is) (at_first (λ k. IsSingle (at only k).state) (fresh_single one is.fresh) k (subst (λ n. k < n) count below));
        ranks = subst (λ xs. AreRanks xs after.waiting.keys) (sym all_is) (subst (AreRanks only) (sym (put.ranks ∙ ap (λ ks. ranks_with ks (length before.made.items) one) keys_is ∙ ap (λ xs. ranks_with [] (length xs) one) made_is)) ranks);
      }
