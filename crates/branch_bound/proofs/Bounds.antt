-- The bound of a tree, by what is known of its leaves.
use Rattle.std.proofs.Common.{◌≡◌, ℕ, zero, suc, ◌<◌, Bool, true, false, ◌||◌, if◌then◌else◌, List, [], ◌∷◌, All, Option, Some, None, IfSome, IsSomeAnd, ℤ, pos, ◌≤ℤ◌, ◌<ℤ◌, refl, sym, subst, arith}
use Rattle.std.specs.Prelude.{int_le}
use Rattle.std.proofs.lemmas.Int.{by_lt_z, ints}
use Rattle.std.proofs.lemmas.List.Elements.{All-head}
use Rattle.sums.specs.Below.{count_below}
use Rattle.sums.specs.Places.{list_below}
use Rattle.sums.proofs.Places.{get_or-list_below, length-list_below}
use Rattle.sums.proofs.Tests.{by_either}
use Rattle.frac_row.proofs.Ceilings.{same_ceiling}
use Rattle.fleet_model.specs.Counts.{choice_at}
use Rattle.fleet_model.specs.Kept.{Domains, IsKeptAssignment, IsSole}
use Rattle.fleet_model.specs.Legal.{IsLegal, total_cost}
use Rattle.fleet_model.specs.Schedule.{choices_in, leg_on, legs_in}
use Rattle.fleet_model.specs.declared.tables.Tables.{Tables}
use Rattle.dual_bound.specs.Bound.{IsBoundIn, IsPriceBound, IsSoleBound, lesser_bound, part}
use Rattle.dual_bound.specs.Leaves.{has_open}
use Rattle.dual_bound.specs.Prices.{ArePrices}
use Rattle.dual_bound.specs.declared.prices.Prices.{Prices}
use Rattle.dual_bound.specs.declared.trees.Tree.{Tree}
use Rattle.dual_bound.specs.declared.trees.Tree.TheVariants as tree
use Rattle.cert_check.specs.Nodes.{Node, nodes_in}
use Rattle.cert_check.specs.Rules.{IsSound, ReachesCost}
use Rattle.cert_check.specs.Verdicts.{AreSound}
use Rattle.cert_check.specs.declared.rules.Rule.TheVariants as rule
use Rattle.cert_check.proofs.NodeRules.{prices_known}
use Rattle.node_bounding.specs.Found.{AnswersSole, FallsShort, LeavesGap}
use Rattle.node_bounding.proofs.Nodes.{both_all, node}

-- ---- the one assignment that is left
-- the last number below n that passes
chosen : (ℕ → Bool) → ℕ → ℕ
chosen p zero = 0
chosen p (suc n) = if p n then n else chosen p n

record IsChosen (p : ℕ → Bool) (n k : ℕ) : Type 0 where
  within : k < n
  passes : p k ≡ true

is_chosen : (p : ℕ → Bool) (n : ℕ) → 0 < count_below p n → IsChosen p n (chosen p n)
unfolding chosen
is_chosen p zero some = absurd (omega (arith, some))
is_chosen p (suc n) some = by_test (p n) refl (is_chosen p n)
  where
    by_test : (b : Bool) → p n ≡ b → (0 < count_below p n → IsChosen p n (chosen p n)) → IsChosen p (suc n) (if p n then n else chosen p n)
    by_test true e before = rw e (record { within = omega arith; passes = e })
    by_test false e before =
        let none : ◌≡◌ {A = ℕ} (if p n then 1 else 0) 0 = rw e refl in
        let found = before (omega (arith, some, none)) in
        rw e (record { within = omega (arith, found.within); passes = found.passes })

module _ (t : Tables) (keeps : Domains) (sole : IsSole t keeps) where
  sole_fleets : List ℕ
  sole_fleets = list_below (λ l. chosen (λ f. keeps (leg_on l f)) (choices_in t l)) (legs_in t)

  found_on : (l : ℕ) → l < legs_in t → IsChosen (λ f. keeps (leg_on l f)) (choices_in t l) (choice_at sole_fleets l)
  unfolding sole_fleets
  found_on l below =
      rw (get_or-list_below (λ k. chosen (λ f. keeps (leg_on k f)) (choices_in t k)) (legs_in t) l 0 below) (is_chosen (λ f. keeps (leg_on l f)) (choices_in t l) (omega (arith, sole.each l below)))

  sole_kept : IsKeptAssignment t keeps sole_fleets
  unfolding sole_fleets
  sole_kept = record {
    assignment = record { each_leg = length-list_below _ (legs_in t); known = λ l below. (found_on l below).within };
    kept = λ l below. (found_on l below).passes;
  }

-- ---- the lesser of two bounds
-- what holds of both holds of the lesser
of_lesser : (P : ℤ → Type 0) (first second : Option ℤ) → IfSome first P → IfSome second P → IfSome (lesser_bound first second) P
of_lesser P first None p q = p
of_lesser P None (Some y) p q = q
of_lesser P (Some x) (Some y) p q = by_test (int_le x y)
  where
    by_test : (b : Bool) → P (if b then x else y)
    by_test true = p
    by_test false = q

-- a bound below a cost, where there is one
abbrev IsBelow : Option ℤ → Option ℤ → Type 0
IsBelow bound final = IsSomeAnd bound (λ b. IfSome final (λ c. b <ℤ c))

less_below : (x y : ℤ) (final : Option ℤ) → x ≤ℤ y → IfSome final (λ c. y <ℤ c) → IfSome final (λ c. x <ℤ c)
less_below x y None less below = tt
less_below x y (Some c) less below = omega (arith, ints, less, below)

below_first : (first second final : Option ℤ) → IsBelow first final → IsBelow (lesser_bound first second) final
below_first (Some x) None final below = below
below_first (Some x) (Some y) final below = by_test (int_le x y) (λ e. grind (arith, ints))
  where
    by_test : (b : Bool) → (b ≡ false → y ≤ℤ x) → IfSome final (λ c. (if b then x else y) <ℤ c)
    by_test true le = below
    by_test false le = less_below y x final (le refl) below
below_first None second final below = absurd below

below_second : (first second final : Option ℤ) → IsBelow second final → IsBelow (lesser_bound first second) final
below_second first None final below = absurd below
below_second None (Some y) final below = below
below_second (Some x) (Some y) final below = by_test (int_le x y) (λ e. grind (arith, ints))
  where
    by_test : (b : Bool) → (b ≡ true → x ≤ℤ y) → IfSome final (λ c. (if b then x else y) <ℤ c)
    by_test true le = less_below x y final (le refl) below
    by_test false le = below

-- of two tests
neither : (b c : Bool) → (b || c) ≡ false → (b ≡ false) × (c ≡ false)
neither true c e = absurd (cc)
neither false c e = (refl, e)

-- ---- a tree without an open leaf
module _ (t : Tables) (final : Option ℤ) where
  -- there is a plan that costs no more than a bound
  abbrev IsReached : ℤ → Type 0
  IsReached b = IsSomeAnd final (λ c. c ≤ℤ b)

  own : (P : Node → Type 0) (keeps : Domains) (whole : Tree) (rest : List Node) → All P (node keeps whole ∷ rest) → P (node keeps whole)
  own P keeps whole rest all = All-head P (node keeps whole) rest all

  -- a priced leaf
  by_price : (keeps : Domains) (prices : Prices) (bound : Option ℤ) → IsSound t final (node keeps (tree.Priced prices)) → IsPriceBound t keeps prices bound → IfSome bound IsReached
  by_price keeps prices bound sound is = subst (λ b. IfSome b IsReached) (sym is.is) (by_cost final (sound.each rule.Priced))
    where
      proper : ArePrices t prices
      proper = prices_known t final (node keeps (tree.Priced prices)) prices sound refl

      by_cost : (f : Option ℤ) → IsSomeAnd f (ReachesCost t keeps prices) → IsSomeAnd f (λ c. c ≤ℤ is.least)
      by_cost None reaches = reaches
      by_cost (Some c) reaches = omega (arith, ints, reaches.reaches, same_ceiling _ _ reaches.least is.least proper.scale.some reaches.rounded is.rounded)

  -- a sole leaf
  by_sole : (keeps : Domains) (bound : Option ℤ) → IsSole t keeps → AnswersSole t final (node keeps tree.Sole) → IsSoleBound t keeps bound → IfSome bound IsReached
  by_sole keeps None sole answers is = tt
  by_sole keeps (Some b) sole answers is = by_cost final (answers.answers refl (sole_fleets t keeps sole) (sole_kept t keeps sole))
    where
      unless_legal : {X : Type 0} → ¬ (IsLegal t (sole_fleets t keeps sole)) → X
      unless_legal other = absurd (cc (is.illegal (sole_fleets t keeps sole) (sole_kept t keeps sole) other))

      by_cost : (f : Option ℤ) → (IsLegal t (sole_fleets t keeps sole) → IsSomeAnd f (λ c. c ≤ℤ total_cost t (sole_fleets t keeps sole))) → IsSomeAnd f (λ c. c ≤ℤ b)
      by_cost None never = unless_legal never
      by_cost (Some c) no_more = by_lt_z b c
          (λ less. unless_legal (λ legal. let same : Some b ≡ Some (total_cost t (sole_fleets t keeps sole)) = is.legal (sole_fleets t keeps sole) (sole_kept t keeps sole) legal in
          let there : b ≡ total_cost t (sole_fleets t keeps sole) = cc in omega (arith, ints, no_more legal, there, less)))
          (λ fine. fine)

  pub closed_bound : (keeps : Domains) (whole : Tree) (bound : Option ℤ) → AreSound t final keeps whole → All (AnswersSole t final) (nodes_in keeps whole) → has_open whole ≡ false
      → IsBoundIn t keeps whole bound → IfSome bound IsReached
  closed_bound keeps tree.Sole bound sound soles shut is = by_sole keeps bound ((own (IsSound t final) keeps tree.Sole [] sound).each rule.Pairs) (own (AnswersSole t final) keeps tree.Sole [] soles) is
  closed_bound keeps (tree.Priced prices) bound sound soles shut is = by_price keeps prices bound (own (IsSound t final) keeps (tree.Priced prices) [] sound) is
  closed_bound keeps (tree.Open prices why) bound sound soles shut is = absurd (cc)
  closed_bound keeps (tree.Trim' leg choice p with_pair q without) bound sound soles shut is =
      let below = both_all (IsSound t final) _ (nodes_in (part keeps leg choice true) with_pair) (nodes_in (part keeps leg choice false) without) sound in
      let answers = both_all (AnswersSole t final) _ (nodes_in (part keeps leg choice true) with_pair) (nodes_in (part keeps leg choice false) without) soles in
      let both = neither (has_open with_pair) (has_open without) shut in
      rw is.lesser (of_lesser IsReached is.with_pair is.without (closed_bound (part keeps leg choice true) with_pair is.with_pair below.0 answers.0 both.0 is.yes_is)
      (closed_bound (part keeps leg choice false) without is.without below.1 answers.1 both.1 is.no_is))
  closed_bound keeps (tree.Split' leg choice prices mixed p with_pair q without) bound sound soles shut is =
      let below = both_all (IsSound t final) _ (nodes_in (part keeps leg choice true) with_pair) (nodes_in (part keeps leg choice false) without) sound in
      let answers = both_all (AnswersSole t final) _ (nodes_in (part keeps leg choice true) with_pair) (nodes_in (part keeps leg choice false) without) soles in
      let both = neither (has_open with_pair) (has_open without) shut in
      rw is.lesser (of_lesser IsReached is.with_pair is.without (closed_bound (part keeps leg choice true) with_pair is.with_pair below.0 answers.0 both.0 is.yes_is)
      (closed_bound (part keeps leg choice false) without is.without below.1 answers.1 both.1 is.no_is))
  closed_bound keeps other bound sound soles shut is = rw is tt

-- ---- a tree with an open leaf
module _ (t : Tables) (final : Option ℤ) where
  by_gap : (keeps : Domains) (prices : Prices) (bound : Option ℤ) → IfSome final (FallsShort t keeps prices) → pos 1 ≤ℤ prices.scale → IsPriceBound t keeps prices bound → IsBelow bound final
  by_gap keeps prices bound gap some is = subst (λ b. IsBelow b final) (sym is.is) (by_cost final gap)
    where
      by_cost : (f : Option ℤ) → IfSome f (FallsShort t keeps prices) → IfSome f (λ c. is.least <ℤ c)
      by_cost None short = tt
      by_cost (Some c) short = omega (arith, ints, short.short, same_ceiling _ _ is.least short.least some is.rounded short.rounded)

  pub open_bound : (keeps : Domains) (whole : Tree) (bound : Option ℤ) → AreSound t final keeps whole → All (LeavesGap t final) (nodes_in keeps whole) → has_open whole ≡ true
      → IsBoundIn t keeps whole bound → IsBelow bound final
  open_bound keeps (tree.Open prices why) bound sound gaps some is =
      by_gap keeps prices bound ((All-head (LeavesGap t final) (node keeps (tree.Open prices why)) [] gaps).gap prices why refl)
      (prices_known t final (node keeps (tree.Open prices why)) prices (All-head (IsSound t final) (node keeps (tree.Open prices why)) [] sound) refl).scale.some is
  open_bound keeps (tree.Trim' leg choice p with_pair q without) bound sound gaps some is =
      let below = both_all (IsSound t final) _ (nodes_in (part keeps leg choice true) with_pair) (nodes_in (part keeps leg choice false) without) sound in
      let short = both_all (LeavesGap t final) _ (nodes_in (part keeps leg choice true) with_pair) (nodes_in (part keeps leg choice false) without) gaps in
      rw is.lesser (by_either (has_open with_pair) (has_open without) some
      (λ e. below_first is.with_pair is.without final (open_bound (part keeps leg choice true) with_pair is.with_pair below.0 short.0 e is.yes_is))
      (λ e. below_second is.with_pair is.without final (open_bound (part keeps leg choice false) without is.without below.1 short.1 e is.no_is)))
  open_bound keeps (tree.Split' leg choice prices mixed p with_pair q without) bound sound gaps some is =
      let below = both_all (IsSound t final) _ (nodes_in (part keeps leg choice true) with_pair) (nodes_in (part keeps leg choice false) without) sound in
      let short = both_all (LeavesGap t final) _ (nodes_in (part keeps leg choice true) with_pair) (nodes_in (part keeps leg choice false) without) gaps in
      rw is.lesser (by_either (has_open with_pair) (has_open without) some
      (λ e. below_first is.with_pair is.without final (open_bound (part keeps leg choice true) with_pair is.with_pair below.0 short.0 e is.yes_is))
      (λ e. below_second is.with_pair is.without final (open_bound (part keeps leg choice false) without is.without below.1 short.1 e is.no_is)))
  open_bound keeps other bound sound gaps some is = absurd (cc)
