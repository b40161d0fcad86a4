-- The subproblem that is split next, and the search once it was split.
use Rattle.std.proofs.Common.{◌≡◌, ℕ, suc, ◌<◌, Bool, true, false, List, [], ◌∷◌, length, Option, Some, None, IfSome, ℤ, get_or, refl, sym, ◌∙◌, ap, subst, arith}
use Rattle.std.specs.Prelude.{slice_get}
use Rattle.std.proofs.lemmas.List.{get_or_read}
use Rattle.fleet_model.specs.Kept.{Domains, narrowed}
use Rattle.fleet_model.specs.Schedule.{IsPair, leg_on}
use Rattle.fleet_model.specs.Whole.{KeepAllowed}
use Rattle.fleet_model.specs.declared.kept.Step.{Step}
use Rattle.fleet_model.specs.declared.parts.Pair.{Pair}
use Rattle.fleet_model.specs.declared.tables.Tables.{Tables}
use Rattle.plan_judge.specs.LegalPlans.{IsLegalPlan}
use Rattle.node_bounding.specs.Examined.{IsExamined}
use Rattle.branch_bound.specs.History.{IsChronicleTold, IsFrom, IsGrown, IsRightAt, IsSearch, IsSplitSearch, KeepsBy, WaitsWith, prices_above}
use Rattle.branch_bound.specs.Ranks.{AreRanks, IsNextRank, IsRankIn, IsWaitingAt, ranks_with}
use Rattle.node_bounding.specs.Relaxed.{AreGood}
use Rattle.node_bounding.specs.Subproblems.{IsFractional, IsNoMore, IsRightState, cost_of_plan}
use Rattle.branch_bound.specs.Search.{HaveOrigins, IsMadeLater, at, no_subproblem, step_into}
use Rattle.node_bounding.specs.Worked.{Worked}
use Rattle.branch_bound.specs.declared.ranks.Rank.{Rank}
use Rattle.branch_bound.specs.declared.search.Search.{Search}
use Rattle.node_bounding.specs.declared.states.Fraction.{Fraction}
use Rattle.branch_bound.specs.declared.subproblems.Origin.{Origin}
use Rattle.node_bounding.specs.declared.states.State.{State}
use Rattle.node_bounding.specs.declared.states.State.TheVariants as state
use Rattle.branch_bound.specs.declared.subproblems.Subproblem.{Subproblem}
use Rattle.node_bounding.proofs.Orders.{no_more_same}
use Rattle.branch_bound.proofs.Ranking.{ranks_grown}
use Rattle.branch_bound.proofs.Splitting.{HasGrown, has_grown}

-- ---- the first of the ranks
headed : (ks : List Rank) (rank : Rank) → slice_get ks 0 ≡ Some rank → (rest : List Rank) × (ks ≡ rank ∷ rest)
headed [] rank is = absurd (cc)
headed (k ∷ ks) rank is = let same : k ≡ rank = cc in (ks, ap (λ x. x ∷ ks) same)

-- a subproblem that waits, with its fraction
pub record IsReady (all : List Subproblem) (rank : Rank) (f : Fraction) : Type 0 where
  pub within : rank.number < length all
  pub state_is : (at all rank.number).state ≡ state.Waiting f
  pub worth_is : f.worth ≡ rank.worth

fraction_of : (s : State) (worth : ℤ) → IsWaitingAt s worth → (f : Fraction) × (s ≡ state.Waiting f) × (f.worth ≡ worth)
fraction_of (state.Waiting f) worth waits = (f, refl, waits)
fraction_of other worth waits = absurd waits

module _ (t : Tables) (root : Domains) (s : Search) (rank : Rank) (search : IsSearch t root s) (next : IsNextRank s rank) where
  abbrev all : List Subproblem
  all = s.made.items

  rest : List Rank
  rest = (headed s.waiting.keys rank next.head).0

  keys : s.waiting.keys ≡ rank ∷ rest
  unfolding rest
  keys = (headed s.waiting.keys rank next.head).1

  in_list : IsRankIn all rank
  in_list = let first = subst (λ ks. (k : ℕ) (d : Rank) → k < length ks → IsRankIn all (get_or ks k d)) keys search.ranks.each in first 0 rank (omega arith)

  pub fraction : Fraction
  fraction = (fraction_of (at all rank.number).state rank.worth in_list.waits).0

  pub ready : IsReady all rank fraction
  unfolding fraction
  ready =
      let own = fraction_of (at all rank.number).state rank.worth in_list.waits in
      record { within = in_list.within; state_is = own.1; worth_is = own.2 }

  pub its_fraction : IsFractional t (search.chronicle.made rank.number).keeps fraction
  its_fraction =
      subst (λ x. IsRightState t s.pivots (cost_of_plan s.best) (search.chronicle.made rank.number).keeps (prices_above t search.chronicle.made (at all rank.number).origin) x) ready.state_is
      (search.right (cost_of_plan s.best) (no_more_same (cost_of_plan s.best)) rank.number ready.within)

  -- what holds of its fraction
  pub waits_with : (P : Fraction → Type 0) → P fraction → WaitsWith P (at all rank.number).state
  waits_with P holds = subst (WaitsWith P) (sym ready.state_is) holds

  pub waits_so : (P : Fraction → Type 0) → WaitsWith P (at all rank.number).state → P fraction
  waits_so P waits = subst (WaitsWith P) ready.state_is waits

  pub good : WaitsWith (λ f. AreGood t f.best.prices) (at all rank.number).state
  good = waits_with (λ f. AreGood t f.best.prices) its_fraction.split.best.good

  pub origins : HaveOrigins t all
  origins = record { each = λ k below. by_origin k (at all k).origin (search.numbered k below).linked.from (search.numbered k below).keeps }
    where
      by_origin : (k : ℕ) (o : Option Origin) → IsFrom all search.chronicle.parts k o → KeepsBy t root search.chronicle.made k o → IfSome o (IsMadeLater t k)
      by_origin k None from by = tt
      by_origin k (Some origin) from by = record { earlier = from.earlier; pair = by.0 }

  pub pair_known : (pair : Pair) → WaitsWith (λ f. pair ≡ f.pair) (at all rank.number).state → IsPair t (leg_on pair.leg pair.choice)
  pair_known pair is = let same : pair ≡ fraction.pair = waits_so (λ f. pair ≡ f.pair) is in subst (λ p. IsPair t (leg_on p.leg p.choice)) (sym same) its_fraction.split.pair

  pub allowed : KeepAllowed t (search.chronicle.made rank.number).keeps
  allowed = (search.numbered rank.number ready.within).allowed

  -- what the code reads of it
  pub waits_at : (P : Fraction → Type 0) (own : Subproblem) → own ≡ get_or all rank.number own → WaitsWith P (at all rank.number).state → WaitsWith P own.state
  waits_at P own is waits = subst (λ (x : Subproblem). WaitsWith P x.state) (sym (get_or_read all rank.number own ready.within is no_subproblem)) waits

  pub at_waits : (P : Fraction → Type 0) (own : Subproblem) → own ≡ get_or all rank.number own → WaitsWith P own.state → WaitsWith P (at all rank.number).state
  at_waits P own is waits = subst (λ (x : Subproblem). WaitsWith P x.state) (get_or_read all rank.number own ready.within is no_subproblem) waits

  pub keeps_there : (slice : List Subproblem) (kept : Domains) → slice ≡ all → ((made : ℕ → Worked) → ((k : ℕ) → k < length slice → KeepsBy t root made k (at slice k).origin) → kept ≡ (made rank.number).keeps)
      → kept ≡ (search.chronicle.made rank.number).keeps
  keeps_there slice kept same is =
      (subst (λ xs. (made : ℕ → Worked) → ((k : ℕ) → k < length xs → KeepsBy t root made k (at xs k).origin) → kept ≡ (made rank.number).keeps) same is) search.chronicle.made (λ k below. (search.numbered k below).keeps)

  pub allowed_there : (slice : List Subproblem) (kept : Domains) → slice ≡ all → ((made : ℕ → Worked) → ((k : ℕ) → k < length slice → KeepsBy t root made k (at slice k).origin) → kept ≡ (made rank.number).keeps) → KeepAllowed t kept
  allowed_there slice kept same is = subst (KeepAllowed t) (sym (keeps_there slice kept same is)) allowed

  -- the step into a part
  pub step_known : (pair : Pair) (step : Step) (taken : Bool) → step ≡ step_into pair taken → WaitsWith (λ f. pair ≡ f.pair) (at all rank.number).state → IsPair t (leg_on step.leg step.choice)
  step_known pair step taken same is = subst (λ (x : Step). IsPair t (leg_on x.leg x.choice)) (sym same) (pair_known pair is)

  -- ---- after the split
  module _ (middle between after : Search) (pair : Pair) (yes no : State) (first_step second_step : Step) (first_keeps second_keeps : Domains) (pair_is : WaitsWith (λ f. pair ≡ f.pair) (at all rank.number).state)
      (first_step_is : first_step ≡ step_into pair true) (second_step_is : second_step ≡ step_into pair false) (first_keeps_is : first_keeps ≡ (search.chronicle.made rank.number).keeps) (second_keeps_is : second_keeps ≡ first_keeps)
      (middle_is : middle ≡ record s { best = middle.best }) (between_is : between ≡ record middle { best = between.best })
      (one : WaitsWith (λ f. IsExamined t s.pivots s.best middle.best (narrowed first_keeps first_step) f.best.prices yes) (at all rank.number).state)
      (two : WaitsWith (λ f. IsExamined t middle.pivots middle.best between.best (narrowed second_keeps second_step) f.best.prices no) (at middle.made.items rank.number).state)
      (is : IsSplitSearch between after rank.number pair yes no) where
    first_part : IsExamined t s.pivots s.best middle.best (narrowed (search.chronicle.made rank.number).keeps (step_into pair true)) fraction.best.prices yes
    first_part =
        subst (λ d. IsExamined t s.pivots s.best middle.best (narrowed d (step_into pair true)) fraction.best.prices yes) first_keeps_is
        (subst (λ x. IsExamined t s.pivots s.best middle.best (narrowed first_keeps x) fraction.best.prices yes) first_step_is (waits_so (λ f. IsExamined t s.pivots s.best middle.best (narrowed first_keeps first_step) f.best.prices yes) one))

    second_part : IsExamined t s.pivots middle.best between.best (narrowed (search.chronicle.made rank.number).keeps (step_into pair false)) fraction.best.prices no
    second_part =
        let here = subst (λ (m : Search). WaitsWith (λ f. IsExamined t m.pivots middle.best between.best (narrowed second_keeps second_step) f.best.prices no) (at m.made.items rank.number).state) middle_is two in
        subst (λ d. IsExamined t s.pivots middle.best between.best (narrowed d (step_into pair false)) fraction.best.prices no) (second_keeps_is ∙ first_keeps_is)
        (subst (λ x. IsExamined t s.pivots middle.best between.best (narrowed second_keeps x) fraction.best.prices no) second_step_is (waits_so (λ f. IsExamined t s.pivots middle.best between.best (narrowed second_keeps second_step) f.best.prices no) here))

    nodes : between.nodes ≡ s.nodes
    nodes = ap (λ (m : Search). m.nodes) between_is ∙ ap (λ (m : Search). m.nodes) middle_is

    pivots : between.pivots ≡ s.pivots
    pivots = ap (λ (m : Search). m.pivots) between_is ∙ ap (λ (m : Search). m.pivots) middle_is

    splits : between.splits ≡ s.splits
    splits = ap (λ (m : Search). m.splits) between_is ∙ ap (λ (m : Search). m.splits) middle_is

    made : between.made ≡ s.made
    made = ap (λ (m : Search). m.made) between_is ∙ ap (λ (m : Search). m.made) middle_is

    waiting : between.waiting ≡ s.waiting
    waiting = ap (λ (m : Search). m.waiting) between_is ∙ ap (λ (m : Search). m.waiting) middle_is

    list_grown : IsGrown all after.made.items rank.number pair yes no
    list_grown = subst (λ v. IsGrown v.items after.made.items rank.number pair yes no) made is.made

    old_keys : between.waiting.keys ≡ rank ∷ rest
    old_keys = ap (λ w. w.keys) waiting ∙ keys

    new_keys : after.waiting.keys ≡ ranks_with (ranks_with rest (length all) yes) (suc (length all)) no
    new_keys = is.ranks rank rest old_keys ∙ ap (λ v. ranks_with (ranks_with rest (length v.items) yes) (suc (length v.items)) no) made

    ranked : AreRanks after.made.items after.waiting.keys
    ranked = ranks_grown all after.made.items rank rest after.waiting.keys fraction pair yes no list_grown ready.state_is ready.worth_is (subst (AreRanks all) keys search.ranks) (is.later rank rest old_keys) new_keys

    grown : HasGrown t root s.pivots between.best (suc (suc (length all))) after.made.items
    grown =
        has_grown t root s.pivots s.best middle.best between.best all after.made.items search.chronicle rank s.waiting.keys fraction pair yes no search.told search.numbered search.right search.singles search.ranks next.least next.below
        ready.within ready.state_is ready.worth_is (waits_so (λ f. pair ≡ f.pair) pair_is) list_grown first_part second_part

    pub split_search : IsSearch t root after
    split_search = record {
      plan = subst (λ x. IfSome x (IsLegalPlan t)) (sym is.best) second_part.plan;
      within = omega (arith, is.splits, is.nodes, nodes, splits, next.room);
      count = omega (arith, list_grown.longer, search.count, is.splits, splits);
      chronicle = grown.chronicle;
      told = subst (λ x. IsChronicleTold t x (length after.made.items) grown.chronicle) (sym is.best) (subst (λ count. IsChronicleTold t between.best count grown.chronicle) (sym list_grown.longer) grown.told);
      numbered = λ k below. grown.numbered k (subst (λ m. k < m) list_grown.longer below);
      right = λ final less k below. subst (λ p. IsRightAt t p final after.made.items grown.chronicle k) (sym (is.pivots ∙ pivots))
          (grown.right final (subst (λ x. IsNoMore (cost_of_plan x) final) is.best less) k (subst (λ m. k < m) list_grown.longer below));
      singles = λ k below. grown.singles k (subst (λ m. k < m) list_grown.longer below);
      ranks = ranked;
    }
