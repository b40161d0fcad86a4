-- What becomes of a subproblem that is made, case by case.
use Rattle.std.proofs.Common.{◌≡◌, ℕ, List, Option, Some, None, IfSome, IsSomeAnd, ℤ, ◌≤ℤ◌, ◌<ℤ◌, inl, inr, ◌⊎◌, refl, sym, ◌∙◌, ap, subst, arith}
use Rattle.std.proofs.lemmas.Int.{ints}
use Rattle.frac_row.specs.Ratio.{IsCeiling}
use Rattle.fleet_model.specs.Kept.{Domains, IsKeptAssignment}
use Rattle.fleet_model.specs.Legal.{IsLegal, total_cost}
use Rattle.fleet_model.specs.Whole.{KeepAllowed}
use Rattle.fleet_model.specs.declared.tables.Tables.{Tables}
use Rattle.fleet_model.proofs.KeptLaws.{sole_is_one}
use Rattle.plan_judge.specs.LegalPlans.{IsLegalPlan}
use Rattle.plan_judge.specs.declared.legal_plans.LegalPlan.{LegalPlan}
use Rattle.dual_bound.specs.Bound.{lesser_bound}
use Rattle.dual_bound.specs.Worth.{worth_of}
use Rattle.dual_bound.specs.declared.prices.Prices.{Prices}
use Rattle.dual_bound.specs.declared.trees.Cause.{Cause}
use Rattle.dual_bound.specs.declared.trees.Cause.TheVariants as cause
use Rattle.dual_bound.specs.declared.trees.Tree.{Tree}
use Rattle.dual_bound.specs.declared.trees.Tree.TheVariants as tree
use Rattle.dual_bound.specs.Fractions.{IsMixedWhole}
use Rattle.dual_bound.specs.WrittenOrder.{IsNodeInOrder}
use Rattle.dual_bound.specs.declared.nodes.Node.{Node}
use Rattle.dual_bound.specs.declared.nodes.Node.TheVariants as ordered
use Rattle.cert_check.specs.Rules.{ReachesCost}
use Rattle.price_lift.specs.declared.best_point.BestPoint.{BestPoint}
use Rattle.node_bounding.specs.Examined.{IsDoneLeaf, IsExamined, IsFoundHere, IsStoppedBy, IsStoppedWith, IsWholeOffered}
use Rattle.node_bounding.specs.Found.{EndsAt}
use Rattle.node_bounding.specs.Made.{CouldBeSplit, IsMadeAs}
use Rattle.node_bounding.specs.Offers.{IsNoSole, IsOffered, IsPlanOf, IsSoleOffered, IsTaken}
use Rattle.node_bounding.specs.Relaxed.{AreGood, AreRefuting, IsBestPoint, IsWhyStopped}
use Rattle.node_bounding.specs.Runs.{IsSearched}
use Rattle.node_bounding.specs.Subproblems.{IsFractional, IsLess, IsNoMore, IsPart, cost_of_plan}
use Rattle.node_bounding.specs.Trims.{AreSearched}
use Rattle.node_bounding.specs.Wholes.{FliesParts}
use Rattle.node_bounding.specs.Worked.{own_node}
use Rattle.node_bounding.specs.declared.states.Fraction.{Fraction}
use Rattle.node_bounding.specs.declared.states.State.{State}
use Rattle.node_bounding.specs.declared.states.State.TheVariants as state
use Rattle.node_bounding.proofs.Leaves.{answers_none, open_sound, priced_sound, refuted_sound, sole_sound}
use Rattle.node_bounding.proofs.Nodes.{all_one}
use Rattle.node_bounding.proofs.Orders.{lesser_no_more, no_more_on, reaches_less, reaches_on}
use Rattle.node_bounding.proofs.Parts.{leaf_part}
use Rattle.node_bounding.proofs.WholePlans.{whole_kept, whole_legal, whole_worth}

-- ---- nothing was found
module _ (t : Tables) (pivots : Option ℕ) (best : Option LegalPlan) (plan : IfSome best (IsLegalPlan t)) (keeps : Domains) (above : Prices) where
  -- a leaf
  at_leaf : (leaf : Tree) → IsDoneLeaf leaf → IsMadeAs t (cost_of_plan best) keeps (own_node leaf) None → AreSearched t keeps leaf
      → ((final : Option ℤ) → IsNoMore (cost_of_plan best) final → IsPart t pivots final keeps above leaf) → IsExamined t pivots best best keeps above (state.Leaf leaf)
  at_leaf leaf done made searched part = record {
    found = None;
    fresh = done;
    plan = plan;
    cheapest = refl;
    is = made;
    right = λ final less. (part final less, searched);
    place = inl refl;
    replaced = inl refl;
  }

  pub refuted_leaf : (prices : Prices) → IsSearched t keeps → AreRefuting t keeps prices → IsExamined t pivots best best keeps above (state.Leaf (tree.Refuted prices))
  refuted_leaf prices searched refuting = at_leaf (tree.Refuted prices) tt refl searched
      (λ final less. leaf_part t pivots final keeps above (tree.Refuted prices) refl refl refuting.good.known (all_one (IsNodeInOrder t) (ordered.Refuted prices) refuting.good.in_order)
      (refuted_sound t final keeps prices refuting.good.proper searched.some_pair refuting.refute) (answers_none t final keeps (tree.Refuted prices) (λ e. cc)) tt)

  pub priced_leaf : (prices : Prices) → IsSearched t keeps → AreGood t prices → IsSomeAnd (cost_of_plan best) (ReachesCost t keeps prices)
      → IsExamined t pivots best best keeps above (state.Leaf (tree.Priced prices))
  priced_leaf prices searched good reached = at_leaf (tree.Priced prices) tt (inl (record { reaches = reached; none = refl })) searched
      (λ final less. leaf_part t pivots final keeps above (tree.Priced prices) refl refl good.known (all_one (IsNodeInOrder t) (ordered.Priced prices) good.in_order)
      (priced_sound t final keeps prices good.proper searched.some_pair (reaches_on t keeps prices (cost_of_plan best) final reached less)) (answers_none t final keeps (tree.Priced prices) (λ e. cc)) tt)

  -- its run gave no prices, and it takes those above
  stopped_parts : (prices : Prices) (why : Cause) → IsSearched t keeps → AreGood t above → prices ≡ above → IsWhyStopped t keeps pivots why
      → IsStoppedBy why × IsMadeAs t (cost_of_plan best) keeps (ordered.Open prices why) None × ((final : Option ℤ) → IsPart t pivots final keeps above (tree.Open prices why))
  stopped_parts prices (cause.Nodes mixed) searched good same is = absurd is.stopped
  stopped_parts prices (cause.Pivots made) searched good same is =
      let own : AreGood t prices = subst (AreGood t) (sym same) good in (
        tt,
        (tt, refl),
        λ final. leaf_part t pivots final keeps above (tree.Open prices (cause.Pivots made)) refl refl (own.known, tt) (all_one (IsNodeInOrder t) (ordered.Open prices (cause.Pivots made)) (own.in_order, is.in_order))
            (open_sound t final keeps prices (cause.Pivots made) own.proper searched.some_pair tt tt) (answers_none t final keeps (tree.Open prices (cause.Pivots made)) (λ e. cc)) (record { searched = searched; stopped = is.stopped; nearest = same }),
      )
  stopped_parts prices (cause.Grew made row column) searched good same is =
      let own : AreGood t prices = subst (AreGood t) (sym same) good in (
        tt,
        (tt, refl),
        λ final. leaf_part t pivots final keeps above (tree.Open prices (cause.Grew made row column)) refl refl (own.known, tt) (all_one (IsNodeInOrder t) (ordered.Open prices (cause.Grew made row column)) (own.in_order, is.in_order))
            (open_sound t final keeps prices (cause.Grew made row column) own.proper searched.some_pair tt tt) (answers_none t final keeps (tree.Open prices (cause.Grew made row column)) (λ e. cc)) (record { searched = searched; stopped = is.stopped; nearest = same }),
      )
  stopped_parts prices (cause.Lift step at) searched good same is =
      let own : AreGood t prices = subst (AreGood t) (sym same) good in (
        tt,
        (tt, refl),
        λ final. leaf_part t pivots final keeps above (tree.Open prices (cause.Lift step at)) refl refl (own.known, tt) (all_one (IsNodeInOrder t) (ordered.Open prices (cause.Lift step at)) (own.in_order, is.in_order))
            (open_sound t final keeps prices (cause.Lift step at) own.proper searched.some_pair tt tt) (answers_none t final keeps (tree.Open prices (cause.Lift step at)) (λ e. cc)) (record { searched = searched; stopped = is.stopped; nearest = same }),
      )

  pub stopped_here : (prices : Prices) (why : Cause) (made : State) → IsSearched t keeps → AreGood t above → prices ≡ above → IsWhyStopped t keeps pivots why → IsStoppedWith t keeps prices why made → IsExamined t pivots best best keeps above made
  stopped_here prices why (state.Stopped s) searched good same is stays =
      let parts = stopped_parts s.prices s.why searched good (stays.0 ∙ same) (subst (IsWhyStopped t keeps pivots) (sym stays.1) is) in
      record {
        found = None;
        fresh = parts.0;
        plan = plan;
        cheapest = refl;
        is = parts.1;
        right = λ final less. (parts.2 final, searched, stays.2);
        place = inl refl;
        replaced = inl refl;
      }
  stopped_here prices why other searched good same is stays = absurd stays

  -- it waits to be split
  pub waiting : (f : Fraction) → IsFractional t keeps f → IfSome (cost_of_plan best) (λ c. f.worth <ℤ c) → IsExamined t pivots best best keeps above (state.Waiting f)
  waiting f is below = record {
    found = None;
    fresh = tt;
    plan = plan;
    cheapest = refl;
    is = (by_cost (cost_of_plan best) below, refl);
    right = λ final less. is;
    place = inl refl;
    replaced = inl refl;
  }
    where
      by_cost : (c : Option ℤ) → IfSome c (λ c. f.worth <ℤ c) → CouldBeSplit t keeps f.best.prices (cause.Nodes f.best.mixed) c
      by_cost None below = tt
      by_cost (Some c) below = record { least = f.worth; rounded = is.rounded; short = below }

-- a rounded worth that reaches the cost of a plan
pub reaches_by : (t : Tables) (keeps : Domains) (prices : Prices) (worth : ℤ) (cost : Option ℤ) → IsCeiling (worth_of t keeps prices 1) prices.scale worth → IsSomeAnd cost (λ c. c ≤ℤ worth) → IsSomeAnd cost (ReachesCost t keeps prices)
reaches_by t keeps prices worth None rounded reached = absurd reached
reaches_by t keeps prices worth (Some c) rounded reached = record { least = worth; rounded = rounded; reaches = reached }

-- ---- an assignment was offered
module _ (t : Tables) (pivots : Option ℕ) (before after : Option LegalPlan) (keeps : Domains) (above : Prices) where
  -- where it was taken, it is found here
  placed : (a : List ℕ) (node : Node) → IsKeptAssignment t keeps a → EndsAt t keeps (total_cost t a) node → (after ≡ before) ⊎ IsTaken t a before after → (after ≡ before) ⊎ IsFoundHere t keeps node after
  placed a node kept ends (inl same) = inl same
  placed a node kept ends (inr taken) = inr (by_plan after taken.plan)
    where
      by_plan : (best : Option LegalPlan) → IsSomeAnd best (IsPlanOf t a) → IsFoundHere t keeps node best
      by_plan None is = absurd is
      by_plan (Some plan) is = record { kept = subst (IsKeptAssignment t keeps) (sym is.assignment) kept; ends = subst (λ c. EndsAt t keeps c node) (sym is.exact) ends }

  -- .. and it is strictly cheaper than the cheapest plan before
  replaced : (a : List ℕ) → (after ≡ before) ⊎ IsTaken t a before after → (after ≡ before) ⊎ IsLess (cost_of_plan before) (cost_of_plan after)
  replaced a (inl same) = inl same
  replaced a (inr taken) = inr (by_plan after taken.plan)
    where
      by_plan : (best : Option LegalPlan) → IsSomeAnd best (IsPlanOf t a) → IsLess (cost_of_plan before) (cost_of_plan best)
      by_plan None is = absurd is
      by_plan (Some plan) is = subst (λ c. IfSome (cost_of_plan before) (λ e. c <ℤ e)) (sym is.exact) taken.cheaper

  -- a legal assignment that was offered costs no less than the cheapest plan
  no_less : (a : List ℕ) → IsOffered t a before after → IsLegal t a → IsNoMore (Some (total_cost t a)) (cost_of_plan after)
  no_less a offered legal =
      subst (λ c. IsNoMore (Some (total_cost t a)) c) (sym (offered.cheapest ∙ ap (lesser_bound (cost_of_plan before)) (offered.legal legal))) (lesser_second (cost_of_plan before) (total_cost t a))
    where
      lesser_second : (best : Option ℤ) (c : ℤ) → IsNoMore (Some c) (lesser_bound best (Some c))
      lesser_second best c = (lesser_no_more best (Some c)).1

  pub sole_leaf : IsSoleOffered t keeps before after → IsExamined t pivots before after keeps above (state.Leaf tree.Sole)
  sole_leaf sole = record {
    found = sole.offered.found;
    fresh = tt;
    plan = sole.offered.plan;
    cheapest = sole.offered.cheapest;
    is = record {
      legal = λ a kept legal. subst (λ b. sole.offered.found ≡ Some (total_cost t b)) (sym (one a kept)) (sole.offered.legal (subst (IsLegal t) (one a kept) legal));
      illegal = λ a kept other. sole.offered.illegal (λ legal. other (subst (IsLegal t) (sym (one a kept)) legal));
      none = λ other. absurd (other sole.plan sole.kept);
    };
    right = λ final less. (leaf_part t pivots final keeps above tree.Sole refl refl tt (all_one (IsNodeInOrder t) ordered.Sole tt) (sole_sound t final keeps sole.sole) (record { answers = λ e a kept legal. answer final less a kept legal }) tt, tt);
    place = placed sole.plan ordered.Sole sole.kept tt sole.offered.taken;
    replaced = replaced sole.plan sole.offered.taken;
  }
    where
      one : (a : List ℕ) → IsKeptAssignment t keeps a → a ≡ sole.plan
      one a kept = sole_is_one t keeps a sole.plan sole.sole kept sole.kept

      answer : (final : Option ℤ) → IsNoMore (cost_of_plan after) final → (a : List ℕ) → IsKeptAssignment t keeps a → IsLegal t a → IsNoMore (Some (total_cost t a)) final
      answer final less a kept legal =
          no_more_on (Some (total_cost t a)) (cost_of_plan after) final (subst (λ b. IsNoMore (Some (total_cost t b)) (cost_of_plan after)) (sym (one a kept)) (no_less sole.plan sole.offered (subst (IsLegal t) (one a kept) legal))) less

  pub whole_leaf : (prices : Prices) → IsSearched t keeps → AreGood t prices → IsWholeOffered t keeps prices before after → IsExamined t pivots before after keeps above (state.Leaf (tree.Priced prices))
  whole_leaf prices searched good whole = record {
    found = whole.offered.found;
    fresh = tt;
    plan = whole.offered.plan;
    cheapest = whole.offered.cheapest;
    is = inr (record { plan = whole.plan; kept = whole.kept; legal = whole.legal; worth = whole.worth; is = whole.offered.legal whole.legal });
    right = λ final less. (
      leaf_part t pivots final keeps above (tree.Priced prices) refl refl good.known (all_one (IsNodeInOrder t) (ordered.Priced prices) good.in_order)
          (priced_sound t final keeps prices good.proper searched.some_pair (reaches_less t keeps prices (total_cost t whole.plan) final reaches (no_more_on (Some (total_cost t whole.plan)) (cost_of_plan after) final (no_less whole.plan whole.offered whole.legal) less)))
          (answers_none t final keeps (tree.Priced prices) (λ e. cc)) tt,
      searched,
    );
    place = placed whole.plan (ordered.Priced prices) whole.kept whole.worth whole.offered.taken;
    replaced = replaced whole.plan whole.offered.taken;
  }
    where
      reaches : ReachesCost t keeps prices (total_cost t whole.plan)
      reaches = record { least = total_cost t whole.plan; rounded = whole.worth; reaches = omega (arith, ints) }

-- the assignment that a whole fractional assignment is
pub whole_offered : (t : Tables) (keeps : Domains) (point : BestPoint) (a : List ℕ) (before after : Option LegalPlan) → KeepAllowed t keeps → IsBestPoint t keeps point → IsMixedWhole t point.mixed → FliesParts t point.mixed a
    → IsOffered t a before after → IsWholeOffered t keeps point.prices before after
whole_offered t keeps point a before after allowed best whole flies offered = record {
  plan = a;
  kept = whole_kept t keeps point.mixed a allowed best.mixed_at whole flies;
  legal = whole_legal t keeps point.mixed a allowed best.mixed_at whole flies;
  worth = whole_worth t keeps point.mixed a allowed best.mixed_at whole flies point.prices best.good.proper.scale.some best.value;
  offered = offered;
}

-- where nothing was offered, the best plan is that from before
pub after_no_sole : (t : Tables) (pivots : Option ℕ) (before after : Option LegalPlan) (keeps : Domains) (above : Prices) (made : State) → IsNoSole t keeps before after → IsExamined t pivots before before keeps above made → IsExamined t pivots before after keeps above made
after_no_sole t pivots before after keeps above made none is = subst (λ s. IsExamined t pivots before s keeps above made) (sym none.same) is

pub before_no_sole : (t : Tables) (pivots : Option ℕ) (before between after : Option LegalPlan) (keeps : Domains) (above : Prices) (made : State) → IsNoSole t keeps before between → IsExamined t pivots between after keeps above made → IsExamined t pivots before after keeps above made
before_no_sole t pivots before between after keeps above made none is = subst (λ s. IsExamined t pivots s after keeps above made) none.same is
