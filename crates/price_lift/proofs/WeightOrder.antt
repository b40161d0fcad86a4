-- Weights by the order of the pairs' columns are in written order.
use Rattle.std.proofs.Common.{◌≡◌, ℕ, ◌<◌, Bool, true, false, not, ◌==◌, ◌&&◌, ◌||◌, nat_lt, if◌then◌else◌, List, [], ◌∷◌, get_or, All, AllPairs, Option, Some, None, ℤ, pos, unsigned_abs, refl, sym, subst, ◌⊎◌, inl, inr, arith}
use Rattle.std.specs.Ordering.{int_eq}
use Rattle.std.proofs.lemmas.Bool.Decides.{Decides-int_eq, nat_tests}
use Rattle.sums.proofs.Sizes.{size_of_zero}
use Rattle.sums.proofs.Tests.{both_true}
use Rattle.fleet_model.specs.declared.parts.Pair.{Pair}
use Rattle.fleet_model.specs.declared.tables.Tables.{Tables}
use Rattle.fleet_model.specs.Kept.{Domains, pairs_kept}
use Rattle.fleet_model.specs.Schedule.{choices_in, leg_on, legs_in}
use Rattle.lp_rows.specs.Layout.{all_kept, concat_below, pair_if_kept, pairs_of_leg, Starts}
use Rattle.lp_rows.proofs.Counted.{pairs_are}
use Rattle.lp_rows.proofs.Totals.{all_concat}
use Rattle.dual_bound.specs.Order.{weight_follows}
use Rattle.dual_bound.specs.WrittenOrder.{IsFigure, IsWeightInOrder, WeightsFollow}
use Rattle.dual_bound.specs.declared.mixed.Weight.{Weight}
use Rattle.price_lift.specs.Parts.{weights_at}
use Rattle.lp_rows.proofs.PairParts.{is_pair}
use Rattle.price_lift.proofs.Orders.{Follow, at_number, concat_same, follow_all, pairs_concat}

-- ---- pairs by leg, then choice
abbrev pub PairBefore : Pair → Pair → Type 0
PairBefore p q = (p.leg < q.leg) ⊎ ((p.leg ≡ q.leg) × (p.choice < q.choice))

one_pair : (keeps : Domains) (l f : ℕ) → AllPairs PairBefore (pair_if_kept keeps l f)
one_pair keeps l f = of_test (keeps (leg_on l f))
  where
    of_test : (b : Bool) → AllPairs PairBefore (if b then leg_on l f ∷ [] else [])
    of_test true = λ i j d order below. absurd (omega arith)
    of_test false = λ i j d order below. absurd (omega arith)

record IsOn (l f : ℕ) (p : Pair) : Type 0 where
  leg : p.leg ≡ l
  choice : p.choice ≡ f

is_on : (keeps : Domains) (l f : ℕ) → All (IsOn l f) (pair_if_kept keeps l f)
is_on keeps l f = of_test (keeps (leg_on l f))
  where
    of_test : (b : Bool) → All (IsOn l f) (if b then leg_on l f ∷ [] else [])
    of_test true = λ k d below. let first : 0 ≡ k = omega arith in subst (λ j. IsOn l f (get_or (leg_on l f ∷ []) j d)) first (record { leg = refl; choice = refl })
    of_test false = λ k d below. absurd (omega arith)

kept_in_order : (t : Tables) (keeps : Domains) → AllPairs PairBefore (all_kept t keeps)
kept_in_order t keeps =
    pairs_concat PairBefore (λ l p. p.leg ≡ l) (pairs_of_leg t keeps) (legs_in t)
    (λ l below. pairs_concat PairBefore (IsOn l) (pair_if_kept keeps l) (choices_in t l) (λ c known. one_pair keeps l c) (λ c known. is_on keeps l c)
    (λ i k p q order here there. inr (omega (arith, here.leg, there.leg), omega (arith, order, here.choice, there.choice))))
    (λ l below. all_concat (λ p. p.leg ≡ l) (pair_if_kept keeps l) (choices_in t l) (λ c known k d there. (is_on keeps l c k d there).leg))
    (λ i k p q order here there. inl (omega (arith, order, here, there)))

-- ---- the weights
abbrev weight_at : List Pair → List ℤ → ℕ → Weight
weight_at pairs parts c = record { leg = (get_or pairs c (leg_on 0 0)).leg; choice = (get_or pairs c (leg_on 0 0)).choice; weight = get_or parts c (pos 0) }

abbrev some_at : List ℤ → ℕ → Bool
some_at parts c = not (unsigned_abs (get_or parts c (pos 0)) == 0)

pub turned : {X : Type 0} (b : Bool) (x : X) → ◌≡◌ {A = List X} (if b then [] else x ∷ []) (if not b then x ∷ [] else [])
turned true x = refl
turned false x = refl

pub not_zero : (z : ℤ) → not (unsigned_abs z == 0) ≡ true → not (int_eq z (pos 0)) ≡ true
not_zero z e = by (int_eq z (pos 0)) refl
  where
    clash : (n : ℕ) → n ≡ 0 → not (n == 0) ≡ true → ⊥
    clash n is e = grind (arith, nat_tests)

    by : (b : Bool) → int_eq z (pos 0) ≡ b → not b ≡ true
    by true same = absurd (clash (unsigned_abs z) (size_of_zero z ((Decides-int_eq z (pos 0)).0 same)) e)
    by false same = refl

follows : (p q : Pair) (w z : ℤ) → PairBefore p q → not (int_eq z (pos 0)) ≡ true
    → weight_follows (Some (record { leg = p.leg; choice = p.choice; weight = w })) (record { leg = q.leg; choice = q.choice; weight = z }) ≡ true
follows p q w z before some = both_true (nat_lt p.leg q.leg || ((p.leg == q.leg) && nat_lt p.choice q.choice)) (not (int_eq z (pos 0))) (order before) some
  where
    order : PairBefore p q → (nat_lt p.leg q.leg || ((p.leg == q.leg) && nat_lt p.choice q.choice)) ≡ true
    order (inl less) = grind (arith, nat_tests)
    order (inr same) = let leg = same.0 in let fleet = same.1 in grind (arith, nat_tests)

of_follow : (before : Option Weight) (ws : List Weight) → Follow weight_follows before ws → WeightsFollow before ws
of_follow before [] all = tt
of_follow before (w ∷ ws) all = (all.0, of_follow (Some w) ws all.1)

pub weights_follow : (t : Tables) (keeps : Domains) (parts : List ℤ) → WeightsFollow None (concat_below (weights_at (all_kept t keeps) parts) (pairs_kept t keeps))
weights_follow t keeps parts =
    let pairs = all_kept t keeps in
    of_follow None (concat_below (weights_at pairs parts) (pairs_kept t keeps))
    (subst (Follow weight_follows None) (sym (concat_same (weights_at pairs parts) (at_number (some_at parts) (weight_at pairs parts)) (pairs_kept t keeps) (λ c. turned (unsigned_abs (get_or parts c (pos 0)) == 0) (weight_at pairs parts c))))
    (follow_all (some_at parts) (weight_at pairs parts) weight_follows (pairs_kept t keeps) (record {
      first = λ c below some none. not_zero (get_or parts c (pos 0)) some;
      next = λ b c order below there some none.
          follows (get_or pairs b (leg_on 0 0)) (get_or pairs c (leg_on 0 0)) (get_or parts b (pos 0)) (get_or parts c (pos 0)) (kept_in_order t keeps b c (leg_on 0 0) order (omega (arith, below, pairs_are t keeps))) (not_zero (get_or parts c (pos 0)) some);
    })))

pub all_other : {X : Type 0} (P : X → Type 0) (b : Bool) (x : X) → P x → All P (if b then [] else x ∷ [])
all_other P true x holds = λ k d below. absurd (omega arith)
all_other P false x holds = λ k d below. let first : 0 ≡ k = omega arith in subst (λ j. P (get_or (x ∷ []) j d)) first holds

pub weights_in_order : (t : Tables) (keeps : Domains) (starts : Starts) (parts : List ℤ) → ((c : ℕ) → c < pairs_kept t keeps → IsFigure (get_or parts c (pos 0)))
    → All (IsWeightInOrder t) (concat_below (weights_at (all_kept t keeps) parts) (pairs_kept t keeps))
weights_in_order t keeps starts parts figures = all_concat (IsWeightInOrder t) (weights_at (all_kept t keeps) parts) (pairs_kept t keeps) (λ c below.
    all_other (IsWeightInOrder t) (unsigned_abs (get_or parts c (pos 0)) == 0) (weight_at (all_kept t keeps) parts c) (record { pair = is_pair t keeps starts c below; weight = figures c below }))
