-- Weak duality over a tree, of whose nodes three rules alone are asked: its bound is no more than the cost of any legal
-- assignment.
use Rattle.std.proofs.Common.{◌≡◌, ℕ, Bool, true, false, not, ◌==◌, if◌then◌else◌, List, [], All, Option, Some, None, IfSome, MatchOption, ℤ, ◌≤ℤ◌, refl, sym, ◌∙◌, ap, subst, arith}
use Rattle.std.proofs.lemmas.Int.{ints}
use Rattle.std.proofs.lemmas.Bool.Decides.{nat_tests}
use Rattle.std.proofs.lemmas.List.Elements.{All-head, All-tail, All-weaker}
use Rattle.std.specs.Prelude.{int_le, ⊤}
use Rattle.sums.proofs.Tests.{both_true}
use Rattle.fleet_model.specs.Counts.{choice_at, pair_at}
use Rattle.fleet_model.specs.Kept.{Domains, IsBare, IsKeptAssignment, all_pairs, leaves}
use Rattle.fleet_model.specs.Legal.{IsLegal, total_cost}
use Rattle.fleet_model.specs.declared.tables.Tables.{Tables}
use Rattle.fleet_model.proofs.KeptLaws.{allowed_is_kept, bare_has_none}
use Rattle.dual_bound.specs.Bound.{IsBoundIn, IsLesserBound, IsPriceBound, lesser_bound, part}
use Rattle.dual_bound.specs.Prices.{ArePrices}
use Rattle.dual_bound.specs.declared.prices.Prices.{Prices}
use Rattle.dual_bound.specs.declared.trees.Tree.{Tree}
use Rattle.dual_bound.specs.declared.trees.Tree.TheVariants as tree
use Rattle.dual_bound.proofs.Duality.{ceiling_is_lower_bound, worth_refutes}
use Rattle.cert_check.specs.Nodes.{Node, nodes_in, prices_at}
use Rattle.cert_check.specs.Rules.{HasItsPairs, IsRefutedAt, IsSound}
use Rattle.cert_check.specs.Verdicts.{AreSound, BoundsAll}
use Rattle.cert_check.specs.declared.rules.Rule.TheVariants as rule
use Rattle.cert_check.proofs.NodeRules.{sound_proper}
use Rattle.cert_check.proofs.Walks.{first_all, node, second_all}

-- a bare leaf keeps no pair on its leg
abbrev pub IsBareAt : Tables → Domains → Tree → Type 0
IsBareAt t keeps (tree.Bare leg) = IsBare t keeps leg
IsBareAt t keeps other = ⊤

-- what weak duality asks of a node
pub record Bounds (t : Tables) (node : Node) : Type 0 where
  pub proper : IfSome (prices_at node.tree) (ArePrices t)
  pub bare : IsBareAt t node.keeps node.tree
  pub refuted : IsRefutedAt t node.keeps node.tree

-- .. on tables on which legs are as bare as on others
pub bare_at : (t u : Tables) → ((keeps : Domains) (leg : ℕ) → IsBare t keeps leg → IsBare u keeps leg) → (keeps : Domains) (whole : Tree) → HasItsPairs t keeps whole → IsBareAt u keeps whole
bare_at t u as_bare keeps (tree.Bare leg) pairs = as_bare keeps leg pairs
bare_at t u as_bare keeps tree.Sole pairs = tt
bare_at t u as_bare keeps (tree.Refuted prices) pairs = tt
bare_at t u as_bare keeps (tree.Priced prices) pairs = tt
bare_at t u as_bare keeps (tree.Open prices why) pairs = tt
bare_at t u as_bare keeps (tree.Trim' leg choice p with_pair q without) pairs = tt
bare_at t u as_bare keeps (tree.Split' leg choice prices mixed p with_pair q without) pairs = tt

sound_bounds : (t : Tables) (cost : Option ℤ) (one : Node) → IsSound t cost one → Bounds t one
sound_bounds t cost one sound = record { proper = sound_proper t cost one sound; bare = bare_at t t (λ keeps leg bare. bare) one.keeps one.tree (sound.each rule.Pairs); refuted = sound.each rule.Refuted }

-- a bound is there, and it is no more than a cost
abbrev IsBelow : Option ℤ → ℤ → Type 0
IsBelow bound cost = MatchOption bound ⊥ (λ least. least ≤ℤ cost)

-- the lesser of two bounds is below where one of them is
below_first : (first second : Option ℤ) (cost : ℤ) → IsBelow first cost → IsBelow (lesser_bound first second) cost
below_first (Some x) None cost below = below
below_first (Some x) (Some y) cost below = by_test (int_le x y) (λ e. grind (arith, ints))
  where
    by_test : (b : Bool) → (b ≡ false → y ≤ℤ x) → (if b then x else y) ≤ℤ cost
    by_test true le = below
    by_test false le = omega (arith, ints, le refl)
below_first None second cost below = absurd below

below_second : (first second : Option ℤ) (cost : ℤ) → IsBelow second cost → IsBelow (lesser_bound first second) cost
below_second first None cost below = absurd below
below_second None (Some y) cost below = below
below_second (Some x) (Some y) cost below = by_test (int_le x y) (λ e. grind (arith, ints))
  where
    by_test : (b : Bool) → (b ≡ true → x ≤ℤ y) → (if b then x else y) ≤ℤ cost
    by_test true le = omega (arith, ints, le refl)
    by_test false le = below

-- an assignment of kept pairs is of the part with a pair where it flies that, else of the part without
module _ (t : Tables) (a : List ℕ) where
  in_part : (keeps : Domains) (leg choice : ℕ) (taken : Bool) → taken ≡ (choice_at a leg == choice) → IsKeptAssignment t keeps a → IsKeptAssignment t (part keeps leg choice taken) a
  in_part keeps leg choice taken e is = record {
    assignment = is.assignment;
    kept = λ l below. both_true (keeps (pair_at a l)) _ (is.kept l below) (stays l);
  }
    where
      by_taken : (b c : Bool) → b ≡ c → (if b then c else not c) ≡ true
      by_taken true c same = sym same
      by_taken false c same = ap not (sym same)

      by_leg : (l : ℕ) (b : Bool) → (b ≡ true → l ≡ leg) → (if b then (if taken then (choice_at a l == choice) else not (choice_at a l == choice)) else true) ≡ true
      by_leg l true same = by_taken taken (choice_at a l == choice) (e ∙ ap (λ m. choice_at a m == choice) (sym (same refl)))
      by_leg l false same = refl

      stays : (l : ℕ) → leaves (record { leg = leg; choice = choice; yes = taken }) (pair_at a l) ≡ true
      stays l = by_leg l (l == leg) (λ same. grind (arith, nat_tests))

module _ (t : Tables) (a : List ℕ) (legal : IsLegal t a) where
  -- a leaf with prices
  by_prices : (keeps : Domains) (prices : Prices) (bound : Option ℤ) → ArePrices t prices → IsPriceBound t keeps prices bound → IsKeptAssignment t keeps a → IsBelow bound (total_cost t a)
  by_prices keeps prices bound proper is kept =
      subst (λ b. IsBelow b (total_cost t a)) (sym is.is) (ceiling_is_lower_bound t keeps prices is.least a proper is.rounded kept legal)

  -- a trim or a split
  by_parts : (keeps : Domains) (leg choice : ℕ) (with_pair without : Option ℤ → Type 0) (bound : Option ℤ) → IsLesserBound with_pair without bound
      → ((b : Option ℤ) → with_pair b → IsKeptAssignment t (part keeps leg choice true) a → IsBelow b (total_cost t a))
      → ((b : Option ℤ) → without b → IsKeptAssignment t (part keeps leg choice false) a → IsBelow b (total_cost t a))
      → IsKeptAssignment t keeps a → IsBelow bound (total_cost t a)
  by_parts keeps leg choice with_pair without bound is first second kept = by_taken (choice_at a leg == choice) refl
    where
      by_taken : (taken : Bool) → (choice_at a leg == choice) ≡ taken → IsBelow bound (total_cost t a)
      by_taken true e = subst (λ b. IsBelow b (total_cost t a)) (sym is.lesser) (below_first is.with_pair is.without (total_cost t a) (first is.with_pair is.yes_is (in_part t a keeps leg choice true (sym e) kept)))
      by_taken false e = subst (λ b. IsBelow b (total_cost t a)) (sym is.lesser) (below_second is.with_pair is.without (total_cost t a) (second is.without is.no_is (in_part t a keeps leg choice false (sym e) kept)))

  pub tree_bound : (keeps : Domains) (whole : Tree) (bound : Option ℤ) → All (Bounds t) (nodes_in keeps whole) → IsBoundIn t keeps whole bound → IsKeptAssignment t keeps a → IsBelow bound (total_cost t a)
  tree_bound keeps (tree.Bare leg) bound all is kept = absurd (bare_has_none t keeps leg a (All-head (Bounds t) (node keeps (tree.Bare leg)) [] all).bare kept)
  tree_bound keeps tree.Sole bound all is kept = rw (is.legal a kept legal) (omega (arith, ints))
  tree_bound keeps (tree.Refuted prices) bound all is kept =
      let here = All-head (Bounds t) (node keeps (tree.Refuted prices)) [] all in
      absurd (worth_refutes t keeps prices a here.proper here.refuted kept legal)
  tree_bound keeps (tree.Priced prices) bound all is kept = by_prices keeps prices bound (All-head (Bounds t) (node keeps (tree.Priced prices)) [] all).proper is kept
  tree_bound keeps (tree.Open prices why) bound all is kept = by_prices keeps prices bound (All-head (Bounds t) (node keeps (tree.Open prices why)) [] all).proper is kept
  tree_bound keeps (tree.Trim' leg choice p with_pair q without) bound all is kept =
      let below = All-tail (Bounds t) _ _ all in
      by_parts keeps leg choice _ _ bound is
      (λ b has here. tree_bound (part keeps leg choice true) with_pair b (first_all (Bounds t) _ _ below) has here)
      (λ b has here. tree_bound (part keeps leg choice false) without b (second_all (Bounds t) (nodes_in (part keeps leg choice true) with_pair) _ below) has here) kept
  tree_bound keeps (tree.Split' leg choice prices mixed p with_pair q without) bound all is kept =
      let below = All-tail (Bounds t) _ _ all in
      by_parts keeps leg choice _ _ bound is
      (λ b has here. tree_bound (part keeps leg choice true) with_pair b (first_all (Bounds t) _ _ below) has here)
      (λ b has here. tree_bound (part keeps leg choice false) without b (second_all (Bounds t) (nodes_in (part keeps leg choice true) with_pair) _ below) has here) kept

-- over all pairs that may be flown
pub bounds_by : (t : Tables) (keeps : Domains) (whole : Tree) (bound : Option ℤ) → keeps ≡ all_pairs t → All (Bounds t) (nodes_in keeps whole) → IsBoundIn t keeps whole bound → BoundsAll t bound
bounds_by t keeps whole bound e all is = by_bound bound (λ a legal. tree_bound t a legal keeps whole bound all is (rw e (allowed_is_kept t a legal.assignment legal.allowed)))
  where
    by_bound : (b : Option ℤ) → ((a : List ℕ) → IsLegal t a → IsBelow b (total_cost t a)) → BoundsAll t b
    by_bound None below = record { none = λ a legal. below a legal }
    by_bound (Some least) below = record { each = below }

-- .. where all nodes keep all rules
pub bounds_all : (t : Tables) (cost : Option ℤ) (keeps : Domains) (whole : Tree) (bound : Option ℤ) → keeps ≡ all_pairs t → AreSound t cost keeps whole → IsBoundIn t keeps whole bound → BoundsAll t bound
bounds_all t cost keeps whole bound e sound is = bounds_by t keeps whole bound e (All-weaker (IsSound t cost) (Bounds t) (sound_bounds t cost) (nodes_in keeps whole) sound) is
