-- What a search knows once the subproblem that is next was split.
use Rattle.std.proofs.Common.{◌≡◌, ◌≢◌, ℕ, suc, ◌<◌, ◌≤◌, Bool, true, false, List, All, length, Option, Some, None, IfSome, IsSomeAnd, ℤ, ◌≤ℤ◌, ◌<ℤ◌, inl, inr, ◌⊎◌, refl, sym, ◌∙◌, ap, subst, arith}
use Rattle.std.specs.List.{Contains}
use Rattle.std.proofs.lemmas.Bool.{cases_eq}
use Rattle.std.proofs.lemmas.Int.{ints}
use Rattle.std.proofs.lemmas.List.Elements.{All-contains}
use Rattle.frac_row.specs.Ratio.{IsCeiling}
use Rattle.fleet_model.specs.Kept.{Domains, narrowed}
use Rattle.fleet_model.specs.Schedule.{IsPair, leg_on}
use Rattle.fleet_model.specs.declared.parts.Pair.{Pair}
use Rattle.fleet_model.specs.declared.tables.Tables.{Tables}
use Rattle.plan_judge.specs.declared.legal_plans.LegalPlan.{LegalPlan}
use Rattle.dual_bound.specs.Bound.{lesser_bound, part}
use Rattle.dual_bound.specs.Worth.{worth_of}
use Rattle.dual_bound.specs.declared.nodes.Node.{Node}
use Rattle.dual_bound.specs.declared.nodes.Node.TheVariants as node
use Rattle.dual_bound.specs.declared.prices.Prices.{Prices}
use Rattle.dual_bound.specs.declared.trees.Cause.TheVariants as cause
use Rattle.node_bounding.specs.Examined.{IsExamined, IsFoundHere}
use Rattle.node_bounding.specs.Found.{EndsAt, IsEndOf}
use Rattle.branch_bound.specs.History.{Chronicle, IsAtLevel, IsChronicleTold, IsFrom, IsGrown, IsNumbered, IsPlanPlaced, IsRightAt, IsSingle, prices_above, prices_in, split_state}
use Rattle.node_bounding.specs.Made.{IsBelowBest, IsInTurn, IsMadeAs, IsNextBefore, IsSplitInTurn, WaitsAs, best_before}
use Rattle.branch_bound.specs.Ranks.{AreRanks, IsNoLater, IsWaitingAt}
use Rattle.node_bounding.specs.Subproblems.{IsFractional, IsNoMore, IsRightState, cost_of_plan, node_of}
use Rattle.branch_bound.specs.Search.{at, step_into}
use Rattle.node_bounding.specs.Worked.{Worked}
use Rattle.branch_bound.specs.declared.ranks.Rank.{Rank}
use Rattle.node_bounding.specs.declared.states.Fraction.{Fraction}
use Rattle.branch_bound.specs.declared.subproblems.Origin.{Origin}
use Rattle.node_bounding.specs.declared.states.State.{State}
use Rattle.node_bounding.specs.declared.states.State.TheVariants as state
use Rattle.branch_bound.specs.declared.subproblems.Subproblem.{Subproblem}
use Rattle.branch_bound.proofs.Fresh.{fresh_single, fresh_turn, leaf_level, leaf_waits_not, stopped_level, stopped_waits_not}
use Rattle.node_bounding.proofs.Orders.{lesser_no_more, no_more_on, no_more_same, one_ceiling}
use Rattle.branch_bound.proofs.Parting.{cost_no_less, part_no_less}
use Rattle.branch_bound.proofs.Updates.{As, by_new, each_three, moved, put_at, put_else, put_here, put_three, same_best, three_first, three_here, three_old, three_second}
use Rattle.branch_bound.proofs.Numbering.{no_parent, numbered_grown as numbers_grown}

-- a list of so many subproblems of a search, whose cheapest plan this is
pub record HasGrown (t : Tables) (root : Domains) (pivots : Option ℕ) (best : Option LegalPlan) (count : ℕ) (all : List Subproblem) : Type 0 where
  pub chronicle : Chronicle
  pub told : IsChronicleTold t best count chronicle
  pub numbered : (k : ℕ) → k < count → IsNumbered t root all chronicle k
  pub right : (final : Option ℤ) → IsNoMore (cost_of_plan best) final → (k : ℕ) → k < count → IsRightAt t pivots final all chronicle k
  pub singles : (k : ℕ) → k < count → IsSingle (at all k).state

module _ (t : Tables) (root : Domains) (pivots : Option ℕ) (best mid after : Option LegalPlan) (all grown : List Subproblem) (c : Chronicle) (rank : Rank) (ranks : List Rank) (f : Fraction) (pair : Pair) (yes no : State)
    (told : IsChronicleTold t best (length all) c) (numbered : (k : ℕ) → k < length all → IsNumbered t root all c k)
    (right : (final : Option ℤ) → IsNoMore (cost_of_plan best) final → (k : ℕ) → k < length all → IsRightAt t pivots final all c k) (singles : (k : ℕ) → k < length all → IsSingle (at all k).state)
    (ranked : AreRanks all ranks) (least : All (IsNoLater rank) ranks) (below : IfSome (cost_of_plan best) (λ cost. rank.worth <ℤ cost)) (within : rank.number < length all)
    (state_is : (at all rank.number).state ≡ state.Waiting f) (worth_is : f.worth ≡ rank.worth) (pair_is : pair ≡ f.pair) (is : IsGrown all grown rank.number pair yes no)
    (one : IsExamined t pivots best mid (narrowed (c.made rank.number).keeps (step_into pair true)) f.best.prices yes)
    (two : IsExamined t pivots mid after (narrowed (c.made rank.number).keeps (step_into pair false)) f.best.prices no) where
  abbrev n : ℕ
  n = length all

  abbrev b : ℕ
  b = rank.number

  abbrev keeps : Domains
  keeps = (c.made b).keeps

  -- ---- the chronicle goes on
  abbrev here : Worked
  here = record { keeps = keeps; node = node.Split f.pair.leg f.pair.choice f.best.prices f.best.mixed }

  abbrev first : Worked
  first = record { keeps = narrowed keeps (step_into pair true); node = node_of yes }

  abbrev second : Worked
  second = record { keeps = narrowed keeps (step_into pair false); node = node_of no }

  abbrev made : ℕ → Worked
  made = put_three c.made b here n first second

  abbrev found : ℕ → Option ℤ
  found = put_at (put_at c.found n one.found) (suc n) two.found

  abbrev parts : ℕ → ℕ
  parts = put_at c.parts b n

  abbrev goes_on : Chronicle
  goes_on = record { made = made; found = found; parts = parts; level = Some f.worth }

  made_old : (k : ℕ) → k < n → k ≢ b → made k ≡ c.made k
  made_old = three_old c.made b n here first second

  made_here : made b ≡ here
  made_here = three_here c.made b n here first second within

  made_first : made n ≡ first
  made_first = three_first c.made b n here first second

  made_second : made (suc n) ≡ second
  made_second = three_second c.made b n here first second

  keeps_old : (k : ℕ) → k < n → (made k).keeps ≡ (c.made k).keeps
  keeps_old k less = elim (cases_eq k b) [
    | inl same ↦ ap (λ j. (made j).keeps) same ∙ ap (λ w. w.keeps) made_here ∙ sym (ap (λ j. (c.made j).keeps) same)
    | inr other ↦ ap (λ w. w.keeps) (made_old k less other)
  ]

  found_old : (k : ℕ) → k < n → found k ≡ c.found k
  found_old k less = put_else (put_at c.found n one.found) (suc n) two.found k (omega (arith, less)) ∙ put_else c.found n one.found k (omega (arith, less))

  found_first : found n ≡ one.found
  found_first = put_else (put_at c.found n one.found) (suc n) two.found n (omega arith) ∙ put_here c.found n one.found

  found_second : found (suc n) ≡ two.found
  found_second = put_here (put_at c.found n one.found) (suc n) two.found

  best_old : (k : ℕ) → k ≤ n → best_before found k ≡ best_before c.found k
  best_old k less = same_best found c.found k (λ j early. found_old j (omega (arith, early, less)))

  best_now : best_before found n ≡ cost_of_plan best
  best_now = best_old n (omega arith) ∙ sym told.cheapest

  best_mid : best_before found (suc n) ≡ cost_of_plan mid
  best_mid = ap (λ x. lesser_bound x (found n)) best_now ∙ ap (lesser_bound (cost_of_plan best)) found_first ∙ sym one.cheapest

  best_after : best_before found (suc (suc n)) ≡ cost_of_plan after
  best_after = ap (λ x. lesser_bound x (found (suc n))) best_mid ∙ ap (lesser_bound (cost_of_plan mid)) found_second ∙ sym two.cheapest

  parts_here : parts b ≡ n
  parts_here = put_here c.parts b n

  parts_old : (k : ℕ) → k ≢ b → parts k ≡ c.parts k
  parts_old k other = put_else c.parts b n k other

  -- ---- the subproblem that is split
  fraction : IsFractional t keeps f
  fraction = subst (λ s. IsRightState t pivots (cost_of_plan best) keeps (prices_above t c.made (at all b).origin) s) state_is (right (cost_of_plan best) (no_more_same (cost_of_plan best)) b within)

  old_node : (c.made b).node ≡ node.Open f.best.prices (cause.Nodes f.best.mixed)
  old_node = (numbered b within).node ∙ ap node_of state_is

  new_state : (at grown b).state ≡ state.Split f
  new_state = ap (λ s. s.state) is.split ∙ ap split_state state_is

  -- a rounded worth of its prices
  its_worth : (worth : ℤ) → IsCeiling (worth_of t keeps f.best.prices 1) f.best.prices.scale worth → worth ≡ f.worth
  its_worth worth rounded = one_ceiling _ _ worth f.worth fraction.split.best.good.proper.scale.some rounded fraction.rounded

  pair_known : IsPair t (leg_on pair.leg pair.choice)
  pair_known = subst (λ p. IsPair t (leg_on p.leg p.choice)) (sym pair_is) fraction.split.pair

  -- ---- those that wait
  -- another subproblem that waits is behind the one that is next
  behind : (k : ℕ) (g : Fraction) (worth : ℤ) → k < n → k ≢ b → (at all k).state ≡ state.Waiting g → IsCeiling (worth_of t (c.made k).keeps g.best.prices 1) g.best.prices.scale worth → IsNextBefore f.worth b worth k
  behind k g worth less other waits rounded = by_rank (All-contains (IsNoLater rank) ranks (record { worth = worth; number = k }) least there)
    where
      own : IsFractional t (c.made k).keeps g
      own = subst (λ s. IsRightState t pivots (cost_of_plan best) (c.made k).keeps (prices_above t c.made (at all k).origin) s) waits (right (cost_of_plan best) (no_more_same (cost_of_plan best)) k less)

      there : Contains ranks (record { worth = worth; number = k })
      there = ranked.every k worth less (subst (λ s. IsWaitingAt s worth) (sym waits) (one_ceiling _ _ g.worth worth own.split.best.good.proper.scale.some own.rounded rounded))

      by_rank : IsNoLater rank (record { worth = worth; number = k }) → IsNextBefore f.worth b worth k
      by_rank order = by_case order.is
        where
          by_case : (record { worth = worth; number = k } ≡ rank) ⊎ IsNextBefore rank.worth rank.number worth k → IsNextBefore f.worth b worth k
          by_case (inl same) = absurd (other (ap (λ r. r.number) same))
          by_case (inr later) = subst (λ w. IsNextBefore w b worth k) (sym worth_is) later

  -- ---- what was found
  each_grown : (k : ℕ) → k < suc (suc n) → IsMadeAs t (best_before found k) (made k).keeps (made k).node (found k)
  each_grown = by_new (λ k. IsMadeAs t (best_before found k) (made k).keeps (made k).node (found k)) b n at_here at_old at_first at_second
    where
      at_here : As t (best_before found b) (made b) (found b)
      at_here =
          let old : IsMadeAs t (best_before c.found b) keeps (node.Open f.best.prices (cause.Nodes f.best.mixed)) (c.found b) = subst (λ m. IsMadeAs t (best_before c.found b) keeps m (c.found b)) old_node (told.each b within) in
          moved t (best_before found b) (best_before found b) (made b) here (found b) (c.found b) refl made_here (found_old b within) old.1

      at_old : (k : ℕ) → k < n → k ≢ b → As t (best_before found k) (made k) (found k)
      at_old k less other = moved t _ _ _ _ _ _ (best_old k (omega (arith, less))) (made_old k less other) (found_old k less) (told.each k less)

      at_first : As t (best_before found n) (made n) (found n)
      at_first = moved t _ _ _ first _ _ best_now made_first found_first one.is

      at_second : As t (best_before found (suc n)) (made (suc n)) (found (suc n))
      at_second = moved t _ _ _ second _ _ best_mid made_second found_second two.is

  -- ---- the turns of the splits
  -- at another subproblem what waits now waited before
  waited : (j k : ℕ) (worth : ℤ) → j < n → k < n → WaitsAs t (made j).keeps (made j).node (parts j) k worth → WaitsAs t (c.made j).keeps (c.made j).node (c.parts j) k worth
  waited j k worth less early waits = elim (cases_eq j b) [
    | inl same ↦
        let now : WaitsAs t keeps (node.Split f.pair.leg f.pair.choice f.best.prices f.best.mixed) (parts b) k worth = subst (λ w. WaitsAs t w.keeps w.node (parts b) k worth) made_here (subst (λ i. WaitsAs t (made i).keeps (made i).node (parts i) k worth) same waits) in
        subst (λ i. WaitsAs t (c.made i).keeps (c.made i).node (c.parts i) k worth) (sym same) (subst (λ m. WaitsAs t keeps m (c.parts b) k worth) (sym old_node) now.1)
    | inr other ↦ subst (λ w. WaitsAs t w.keeps w.node (c.parts j) k worth) (made_old j less other) (subst (λ p. WaitsAs t (made j).keeps (made j).node p k worth) (parts_old j other) waits)
  ]

  turn_old : (k leg choice : ℕ) (prices : Prices) → k < n → k ≢ b → IsSplitInTurn t n c.made c.found c.parts k leg choice prices → IsSplitInTurn t (suc (suc n)) made found parts k leg choice prices
  turn_old k leg choice prices less other turn =
      let same : parts k ≡ c.parts k = parts_old k other in
      let own : (made k).keeps ≡ (c.made k).keeps = keeps_old k less in
      let early : c.parts k < n = omega (arith, turn.within) in
      record {
        later = omega (arith, turn.later, same);
        within = omega (arith, turn.within, same);
        with_pair = ap (λ i. (made i).keeps) same ∙ keeps_old (c.parts k) early ∙ turn.with_pair ∙ ap (λ d. part d leg choice true) (sym own);
        without = ap (λ i. (made (suc i)).keeps) same ∙ keeps_old (suc (c.parts k)) turn.within ∙ turn.without ∙ ap (λ d. part d leg choice false) (sym own);
        below = subst (λ i. IsBelowBest t (made k).keeps prices (best_before found i)) (sym same)
            (subst (λ x. IsBelowBest t (made k).keeps prices x) (sym (best_old (c.parts k) (omega (arith, early)))) (subst (λ d. IsBelowBest t d prices (best_before c.found (c.parts k))) (sym own) turn.below));
        first = λ j worth another before rounded waits.
            let soon : j < c.parts k = omega (arith, before, same) in
            turn.first j worth another soon (subst (λ d. IsCeiling (worth_of t d prices 1) prices.scale worth) own rounded)
            (waited j (c.parts k) another (omega (arith, soon, early)) early (subst (λ i. WaitsAs t (made j).keeps (made j).node (parts j) i another) same waits));
      }

  in_turn_old : (k : ℕ) (m : Node) → k < n → k ≢ b → IsInTurn t n c.made c.found c.parts k m → IsInTurn t (suc (suc n)) made found parts k m
  in_turn_old k (node.Split leg choice prices mixed) less other turn = turn_old k leg choice prices less other turn
  in_turn_old k (node.Bare leg) less other turn = tt
  in_turn_old k node.Sole less other turn = tt
  in_turn_old k (node.Refuted prices) less other turn = tt
  in_turn_old k (node.Priced prices) less other turn = tt
  in_turn_old k (node.Open prices why) less other turn = tt
  in_turn_old k (node.Trim leg choice) less other turn = tt

  -- one that waits when the next is split is behind it
  waits_behind : (j : ℕ) (s : State) (worth : ℤ) → j < n → j ≢ b → (at all j).state ≡ s → IsSingle s → WaitsAs t (c.made j).keeps (node_of s) (c.parts j) n worth → IsNextBefore f.worth b worth j
  waits_behind j (state.Leaf leaf) worth less other own single waits = absurd (leaf_waits_not t (c.made j).keeps leaf (c.parts j) n worth single waits)
  waits_behind j (state.Stopped s) worth less other own single waits = absurd (stopped_waits_not t (c.made j).keeps s.prices s.why worth single waits)
  waits_behind j (state.Waiting g) worth less other own single waits = behind j g worth less other own waits
  waits_behind j (state.Split g) worth less other own single waits =
      let turn : IsSplitInTurn t n c.made c.found c.parts j g.pair.leg g.pair.choice g.best.prices = subst (λ m. IsInTurn t n c.made c.found c.parts j m) ((numbered j less).node ∙ ap node_of own) (told.turns j less) in
      absurd (omega (arith, turn.within, waits.0))

  below_now : (x : Option ℤ) → IfSome x (λ cost. rank.worth <ℤ cost) → IsBelowBest t keeps f.best.prices x
  below_now None less = tt
  below_now (Some x) less = record { least = f.worth; rounded = fraction.rounded; short = omega (arith, ints, less, worth_is) }

  turn_here : IsSplitInTurn t (suc (suc n)) made found parts b f.pair.leg f.pair.choice f.best.prices
  turn_here =
      let own : (made b).keeps ≡ keeps = ap (λ w. w.keeps) made_here in
      let step : (taken : Bool) → narrowed keeps (step_into pair taken) ≡ part keeps f.pair.leg f.pair.choice taken = λ taken. ap (λ p. narrowed keeps (step_into p taken)) pair_is in
      record {
        later = omega (arith, parts_here, within);
        within = omega (arith, parts_here);
        with_pair = ap (λ i. (made i).keeps) parts_here ∙ ap (λ w. w.keeps) made_first ∙ step true ∙ ap (λ d. part d f.pair.leg f.pair.choice true) (sym own);
        without = ap (λ i. (made (suc i)).keeps) parts_here ∙ ap (λ w. w.keeps) made_second ∙ step false ∙ ap (λ d. part d f.pair.leg f.pair.choice false) (sym own);
        below = subst (λ i. IsBelowBest t (made b).keeps f.best.prices (best_before found i)) (sym parts_here)
            (subst (λ x. IsBelowBest t (made b).keeps f.best.prices x) (sym best_now) (subst (λ d. IsBelowBest t d f.best.prices (cost_of_plan best)) (sym own) (below_now (cost_of_plan best) below)));
        first = λ j worth another before rounded waits.
            let soon : j < n = omega (arith, before, parts_here) in
            let is_worth : worth ≡ f.worth = its_worth worth (subst (λ d. IsCeiling (worth_of t d f.best.prices 1) f.best.prices.scale worth) own rounded) in
            subst (λ w. IsNextBefore w b another j) (sym is_worth) (by_place j another soon (subst (λ i. WaitsAs t (made j).keeps (made j).node (parts j) i another) parts_here waits));
      }
    where
      by_place : (j : ℕ) (worth : ℤ) → j < n → WaitsAs t (made j).keeps (made j).node (parts j) n worth → IsNextBefore f.worth b worth j
      by_place j worth less waits = elim (cases_eq j b) [
        | inl same ↦
            let now : WaitsAs t keeps (node.Split f.pair.leg f.pair.choice f.best.prices f.best.mixed) (parts b) n worth = subst (λ w. WaitsAs t w.keeps w.node (parts b) n worth) made_here (subst (λ i. WaitsAs t (made i).keeps (made i).node (parts i) n worth) same waits) in
            absurd (omega (arith, now.0, parts_here))
        | inr other ↦
            let old : WaitsAs t (c.made j).keeps (c.made j).node (c.parts j) n worth = subst (λ w. WaitsAs t w.keeps w.node (c.parts j) n worth) (made_old j less other) (subst (λ p. WaitsAs t (made j).keeps (made j).node p n worth) (parts_old j other) waits) in
            waits_behind j (at all j).state worth less other refl (singles j less) (subst (λ m. WaitsAs t (c.made j).keeps m (c.parts j) n worth) (numbered j less).node old)
      ]

  turns_grown : (k : ℕ) → k < suc (suc n) → IsInTurn t (suc (suc n)) made found parts k (made k).node
  turns_grown = by_new (λ k. IsInTurn t (suc (suc n)) made found parts k (made k).node) b n
      (subst (λ w. IsInTurn t (suc (suc n)) made found parts b w.node) (sym made_here) turn_here)
      (λ k less other. subst (λ w. IsInTurn t (suc (suc n)) made found parts k w.node) (sym (made_old k less other)) (in_turn_old k (c.made k).node less other (told.turns k less)))
      (subst (λ w. IsInTurn t (suc (suc n)) made found parts n w.node) (sym made_first) (fresh_turn t (suc (suc n)) made found parts n yes one.fresh))
      (subst (λ w. IsInTurn t (suc (suc n)) made found parts (suc n) w.node) (sym made_second) (fresh_turn t (suc (suc n)) made found parts (suc n) no two.fresh))

  -- ---- the level
  -- the level so far is no more than the rounded worth of the one that is next
  level_below : IfSome c.level (λ l. l ≤ℤ f.worth)
  level_below = (subst (λ m. IsAtLevel t c.level keeps m) old_node (told.levels b within)) f.worth fraction.rounded

  raised : (x : Option ℤ) (worth : ℤ) → IfSome x (λ l. l ≤ℤ f.worth) → IsSomeAnd x (λ l. worth ≤ℤ l) → worth ≤ℤ f.worth
  raised None worth low up = absurd up
  raised (Some l) worth low up = omega (arith, ints, low, up)

  level_old : (k : ℕ) (s : State) → k < n → k ≢ b → (at all k).state ≡ s → IsSingle s → IsAtLevel t (Some f.worth) (c.made k).keeps (node_of s)
  level_old k (state.Leaf leaf) less other own single = leaf_level t (c.made k).keeps (Some f.worth) leaf single
  level_old k (state.Stopped s) less other own single = stopped_level t (c.made k).keeps (Some f.worth) s.prices s.why single
  level_old k (state.Waiting g) less other own single = λ worth rounded. no_less worth (behind k g worth less other own rounded)
    where
      no_less : (worth : ℤ) → IsNextBefore f.worth b worth k → f.worth ≤ℤ worth
      no_less worth (inl later) = omega (arith, ints, later)
      no_less worth (inr tie) = omega (arith, ints, tie.0)
  level_old k (state.Split g) less other own single = λ worth rounded.
      raised c.level worth level_below ((subst (λ m. IsAtLevel t c.level (c.made k).keeps m) ((numbered k less).node ∙ ap node_of own) (told.levels k less)) worth rounded)

  -- a part that waits has a rounded worth that is no less
  level_part : (taken : Bool) (s : State) (before end : Option LegalPlan) → IsExamined t pivots before end (narrowed keeps (step_into pair taken)) f.best.prices s → IsAtLevel t (Some f.worth) (narrowed keeps (step_into pair taken)) (node_of s)
  level_part taken (state.Leaf leaf) before end made_as = leaf_level t _ (Some f.worth) leaf made_as.fresh
  level_part taken (state.Stopped s) before end made_as = stopped_level t _ (Some f.worth) s.prices s.why made_as.fresh
  level_part taken (state.Waiting g) before end made_as = λ worth rounded.
      let own : IsFractional t (narrowed keeps (step_into pair taken)) g = made_as.right (cost_of_plan end) (no_more_same (cost_of_plan end)) in
      part_no_less t keeps (step_into pair taken) f.best.prices g.best f.worth worth fraction.split.best.good.proper own.split.best fraction.rounded rounded
  level_part taken (state.Split g) before end made_as = absurd made_as.fresh

  levels_grown : (k : ℕ) → k < suc (suc n) → IsAtLevel t (Some f.worth) (made k).keeps (made k).node
  levels_grown = each_three c.made b n here first second (λ w. IsAtLevel t (Some f.worth) w.keeps w.node) within
      (λ worth rounded. let same : worth ≡ f.worth = its_worth worth rounded in omega (arith, ints, same))
      (λ k less other. subst (λ m. IsAtLevel t (Some f.worth) (c.made k).keeps m) (sym (numbered k less).node) (level_old k (at all k).state less other refl (singles k less)))
      (level_part true yes best mid one) (level_part false no mid after two)

  cost_grown : IfSome (cost_of_plan after) (λ cost. f.worth ≤ℤ cost)
  cost_grown =
      let proper = fraction.split.best.good.proper in
      cost_no_less t pivots keeps (step_into pair false) f.best.prices f.best.prices f.worth mid after no proper fraction.rounded
      (cost_no_less t pivots keeps (step_into pair true) f.best.prices f.best.prices f.worth best mid yes proper fraction.rounded (not_above (cost_of_plan best) below) one) two
    where
      not_above : (x : Option ℤ) → IfSome x (λ cost. rank.worth <ℤ cost) → IfSome x (λ cost. f.worth ≤ℤ cost)
      not_above None less = tt
      not_above (Some x) less = omega (arith, ints, less, worth_is)

  -- ---- where the plan is found
  place_grown : IfSome after (λ plan. IsPlanPlaced t plan (suc (suc n)) goes_on)
  place_grown = by_second two.place
    where
      placed : (plan : LegalPlan) (k : ℕ) (w : Worked) → k < suc (suc n) → made k ≡ w → IsEndOf t plan.assignment plan.cost w → IsPlanPlaced t plan (suc (suc n)) goes_on
      placed plan k w less same end = record { number = k; within = less; end = subst (IsEndOf t plan.assignment plan.cost) (sym same) end }

      at_new : (x : Option LegalPlan) (k : ℕ) (d : Domains) (m : Node) → k < suc (suc n) → made k ≡ record { keeps = d; node = m } → IsFoundHere t d m x → IfSome x (λ plan. IsPlanPlaced t plan (suc (suc n)) goes_on)
      at_new None k d m less same found_here = tt
      at_new (Some plan) k d m less same found_here = placed plan k (record { keeps = d; node = m }) less same found_here

      at_old : (x : Option LegalPlan) → IfSome x (λ plan. IsPlanPlaced t plan n c) → IfSome x (λ plan. IsPlanPlaced t plan (suc (suc n)) goes_on)
      at_old None old = tt
      at_old (Some plan) old = elim (cases_eq old.number b) [
        | inl same ↦
            let end : IsEndOf t plan.assignment plan.cost (c.made b) = subst (λ k. IsEndOf t plan.assignment plan.cost (c.made k)) same old.end in
            let none : IsEndOf t plan.assignment plan.cost (record { keeps = keeps; node = node.Open f.best.prices (cause.Nodes f.best.mixed) }) = record { kept = end.kept; ends = subst (EndsAt t keeps plan.cost) old_node end.ends } in
            absurd none.ends
        | inr other ↦ placed plan old.number (c.made old.number) (omega (arith, old.within)) (made_old old.number old.within other) old.end
      ]

      by_first : (mid ≡ best) ⊎ IsFoundHere t (narrowed keeps (step_into pair true)) (node_of yes) mid → IfSome mid (λ plan. IsPlanPlaced t plan (suc (suc n)) goes_on)
      by_first (inl same) = subst (λ x. IfSome x (λ plan. IsPlanPlaced t plan (suc (suc n)) goes_on)) (sym same) (at_old best told.place)
      by_first (inr found_here) = at_new mid n _ _ (omega arith) made_first found_here

      by_second : (after ≡ mid) ⊎ IsFoundHere t (narrowed keeps (step_into pair false)) (node_of no) after → IfSome after (λ plan. IsPlanPlaced t plan (suc (suc n)) goes_on)
      by_second (inl same) = subst (λ x. IfSome x (λ plan. IsPlanPlaced t plan (suc (suc n)) goes_on)) (sym same) (by_first one.place)
      by_second (inr found_here) = at_new after (suc n) _ _ (omega arith) made_second found_here

  told_grown : IsChronicleTold t after (suc (suc n)) goes_on
  told_grown = record { each = each_grown; turns = turns_grown; cheapest = sym best_after; levels = levels_grown; cost_from = cost_grown; place = place_grown }

  -- ---- the list
  numbered_grown : (k : ℕ) → k < suc (suc n) → IsNumbered t root grown goes_on k
  numbered_grown = numbers_grown t root all grown c goes_on b f pair yes no numbered within state_is pair_is pair_known is made_old made_here made_first made_second keeps_old parts_here parts_old one.fresh two.fresh

  -- ---- what is known of each
  above_old : (k : ℕ) (o : Option Origin) → k < n → IsFrom all c.parts k o → prices_above t made o ≡ prices_above t c.made o
  above_old k None less from = refl
  above_old k (Some origin) less from = ap (λ w. prices_in t w.node) (made_old origin.parent (omega (arith, from.earlier, less)) (no_parent all c.parts b f state_is k origin from))

  above_part : (taken : Bool) → prices_above t made (Some (record { parent = b; step = step_into pair taken })) ≡ f.best.prices
  above_part taken = ap (λ w. prices_in t w.node) made_here

  module _ (final : Option ℤ) (less_than : IsNoMore (cost_of_plan after) final) where
    mid_less : IsNoMore (cost_of_plan mid) final
    mid_less = no_more_on (cost_of_plan mid) (cost_of_plan after) final (subst (IsNoMore (cost_of_plan mid)) (sym two.cheapest) (lesser_no_more (cost_of_plan mid) two.found).0) less_than

    best_less : IsNoMore (cost_of_plan best) final
    best_less = no_more_on (cost_of_plan best) (cost_of_plan mid) final (subst (IsNoMore (cost_of_plan best)) (sym one.cheapest) (lesser_no_more (cost_of_plan best) one.found).0) mid_less

    right_old : (k : ℕ) → k < n → k ≢ b → IsRightAt t pivots final grown goes_on k
    right_old k less other =
        let same = is.same k less other in
        subst (λ x. IsRightState t pivots final (made k).keeps (prices_above t made x.origin) x.state) (sym same)
        (subst (λ d. IsRightState t pivots final d (prices_above t made (at all k).origin) (at all k).state) (sym (keeps_old k less))
        (subst (λ p. IsRightState t pivots final (c.made k).keeps p (at all k).state) (sym (above_old k (at all k).origin less (numbered k less).linked.from)) (right final best_less k less)))

    right_here : IsRightAt t pivots final grown goes_on b
    right_here =
        subst (λ s. IsRightState t pivots final (made b).keeps (prices_above t made (at grown b).origin) s) (sym new_state) (subst (λ d. IsFractional t d f) (sym (keeps_old b within)) fraction)

    right_part : (k : ℕ) (taken : Bool) (s : State) → at grown k ≡ record { origin = Some (record { parent = b; step = step_into pair taken }); state = s } → made k ≡ record { keeps = narrowed keeps (step_into pair taken); node = node_of s }
        → IsRightState t pivots final (narrowed keeps (step_into pair taken)) f.best.prices s → IsRightAt t pivots final grown goes_on k
    right_part k taken s there same is_right =
        subst (λ x. IsRightState t pivots final (made k).keeps (prices_above t made x.origin) x.state) (sym there)
        (subst (λ w. IsRightState t pivots final w.keeps (prices_above t made (Some (record { parent = b; step = step_into pair taken }))) s) (sym same)
        (subst (λ p. IsRightState t pivots final (narrowed keeps (step_into pair taken)) p s) (sym (above_part taken)) is_right))

    right_grown : (k : ℕ) → k < suc (suc n) → IsRightAt t pivots final grown goes_on k
    right_grown = by_new (λ k. IsRightAt t pivots final grown goes_on k) b n right_here right_old
        (right_part n true yes is.with_pair made_first (one.right final mid_less)) (right_part (suc n) false no is.without made_second (two.right final less_than))

  singles_grown : (k : ℕ) → k < suc (suc n) → IsSingle (at grown k).state
  singles_grown = by_new (λ k. IsSingle (at grown k).state) b n
      (subst IsSingle (sym new_state) tt)
      (λ k less other. subst (λ x. IsSingle x.state) (sym (is.same k less other)) (singles k less))
      (subst (λ x. IsSingle x.state) (sym is.with_pair) (fresh_single yes one.fresh))
      (subst (λ x. IsSingle x.state) (sym is.without) (fresh_single no two.fresh))

  pub has_grown : HasGrown t root pivots after (suc (suc n)) grown
  has_grown = record { chronicle = goes_on; told = told_grown; numbered = numbered_grown; right = right_grown; singles = singles_grown }
