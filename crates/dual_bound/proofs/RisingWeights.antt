-- What weights that rise say of a pair.
use Rattle.std.proofs.Common.{◌≡◌, ℕ, zero, suc, ◌+◌, ◌-◌, ◌<◌, ◌≤◌, Bool, true, false, ◌==◌, if◌then◌else◌, List, [], ◌∷◌, length, slice_index_or, IsTrue, ℤ, pos, refl, sym, ◌∙◌, ap, inl, inr, arith}
use mathlib.Core.Bool.{false≢true}
use Rattle.std.specs.List.{IsAllAdjacentAnswer}
use Rattle.std.specs.List.Sorted.{IsPartitionedBy}
use Rattle.std.proofs.lemmas.List.{get_or_default}
use Rattle.std.proofs.lemmas.Bool.{cases_lt}
use Rattle.std.proofs.lemmas.Bool.Decides.{nat_tests}
use Rattle.fleet_model.specs.declared.parts.Pair.{Pair}
use Rattle.dual_bound.specs.Mixed.{is_weight_of, weight_after}
use Rattle.dual_bound.specs.Rising.{IsPairParting, WeightsRise, is_weight_by, no_weight, weight_before, weight_before_place}
use Rattle.dual_bound.specs.declared.mixed.Weight.{Weight}

-- the order of weights by their pairs is transitive
before_trans : (a b c : Weight) → weight_before a b ≡ true → weight_before b c ≡ true → weight_before a c ≡ true
before_trans a b c first second = grind (arith, nat_tests)

-- each weight's pair comes before that of the next one
pub record RiseByWeight (weights : List Weight) : Type 0 where
  pub each : (k next : ℕ) → next ≡ k + 1 → next < length weights → weight_before (slice_index_or weights k no_weight) (slice_index_or weights next no_weight) ≡ true

-- so it comes before those of all after it
pub rise_from_weights : (weights : List Weight) → RiseByWeight weights → WeightsRise weights
rise_from_weights weights next i zero earlier within = absurd (omega arith)
rise_from_weights weights next i (suc j) earlier within = elim (cases_lt i j) [
  | inl before ↦ before_trans (slice_index_or weights i no_weight) (slice_index_or weights j no_weight) (slice_index_or weights (suc j) no_weight)
      (rise_from_weights weights next i j before (omega arith)) (next.each j (suc j) (omega arith) within)
  | inr after ↦ next.each i (suc j) (omega arith) within
]

-- what a test of neighbors says
pub weights_from_answer : (weights : List Weight) (rising : Bool) → IsAllAdjacentAnswer (λ a b answer. answer ≡ weight_before a b) weights rising → IsTrue rising → RiseByWeight weights
weights_from_answer weights true answer holds = record { each = λ k next follows within. rw follows (sym (answer k no_weight (omega arith))) }
weights_from_answer weights false answer holds = absurd (false≢true holds)

-- how an entry stands to a pair
by_earlier : (a b : Weight) (p : Pair) → weight_before a b ≡ true → is_weight_by p b ≡ true → is_weight_by p a ≡ true
by_earlier a b p before by = grind (arith, nat_tests)

late : (entry : Weight) (p : Pair) → is_weight_by p entry ≡ false → is_weight_of p entry ≡ false
late entry p e = grind (arith, nat_tests)

passed : (a b : Weight) (p : Pair) → weight_before a b ≡ true → is_weight_by p b ≡ true → is_weight_of p a ≡ false
passed a b p before by = grind (arith, nat_tests)

-- entries of other pairs leave the weight
record NoneOf (weights : List Weight) (p : Pair) : Type 0 where
  pub each : (k : ℕ) → k < length weights → is_weight_of p (slice_index_or weights k no_weight) ≡ false

none_says : (weights : List Weight) (v : ℤ) (p : Pair) → NoneOf weights p → weight_after v weights p ≡ v
unfolding weight_after
none_says [] v p none = refl
none_says (entry ∷ entries) v p none =
    let here : is_weight_of p entry ≡ false = none.each 0 (omega arith) in
    rw here (none_says entries v p (record { each = λ k below. none.each (suc k) (omega arith) }))

-- the last entry of a pair says its weight
record IsLast (weights : List Weight) (p : Pair) (place : ℕ) : Type 0 where
  pub within : place < length weights
  pub here : is_weight_of p (slice_index_or weights place no_weight) ≡ true
  pub later : (k : ℕ) → place < k → k < length weights → is_weight_of p (slice_index_or weights k no_weight) ≡ false

last_says : (weights : List Weight) (v : ℤ) (p : Pair) (place : ℕ) → IsLast weights p place → weight_after v weights p ≡ (slice_index_or weights place no_weight).weight
unfolding weight_after
last_says [] v p place last = absurd (omega (arith, last.within))
last_says (entry ∷ entries) v p zero last =
    let here : is_weight_of p entry ≡ true = last.here in
    rw here (none_says entries entry.weight p (record { each = λ k below. last.later (suc k) (omega arith) (omega arith) }))
last_says (entry ∷ entries) v p (suc place) last =
    last_says entries (if is_weight_of p entry then entry.weight else v) p place
    (record { within = omega (arith, last.within); here = last.here; later = λ k above below. last.later (suc k) (omega arith) (omega arith) })

-- weights that rise are parted by a pair
parted : (weights : List Weight) (p : Pair) → WeightsRise weights → (i j : ℕ) → i ≤ j → j < length weights
    → is_weight_by p (slice_index_or weights j no_weight) ≡ true → is_weight_by p (slice_index_or weights i no_weight) ≡ true
parted weights p rise i j le within by = elim (cases_lt i j) [
  | inl before ↦ by_earlier (slice_index_or weights i no_weight) (slice_index_or weights j no_weight) p (rise i j before within) by
  | inr after ↦ let same : i ≡ j = omega arith in rw same by
]

-- so `partition_point` finds where
pub partitioned : (weights : List Weight) (p : Pair) → WeightsRise weights → IsPartitionedBy (is_weight_by p) weights
partitioned weights p rise i j d le within by =
    ap (is_weight_by p) (get_or_default weights i d no_weight (omega arith))
    ∙ parted weights p rise i j le within (ap (is_weight_by p) (sym (get_or_default weights j d no_weight within)) ∙ by)

-- what stands before the parting place says the weight
pub weight_at_parting : (weights : List Weight) (p : Pair) (place : ℕ) → WeightsRise weights → IsPairParting weights p place → weight_after (pos 0) weights p ≡ weight_before_place weights place p
weight_at_parting weights p zero rise part =
    none_says weights (pos 0) p (record { each = λ k below. late (slice_index_or weights k no_weight) p (part.after k (omega arith) below) })
weight_at_parting weights p (suc place) rise part =
    let some : (suc place == 0) ≡ false = grind (arith, nat_tests) in
    let before : suc place - 1 ≡ place = omega arith in
    rw (some, before) (by_test (slice_index_or weights place no_weight) (is_weight_of p (slice_index_or weights place no_weight)) refl refl)
  where
    by_test : (entry : Weight) (b : Bool) → slice_index_or weights place no_weight ≡ entry → is_weight_of p entry ≡ b → weight_after (pos 0) weights p ≡ (if b then entry.weight else pos 0)
    by_test entry true is here =
        last_says weights (pos 0) p place (record {
          within = omega (arith, part.within);
          here = rw is here;
          later = λ k above below. late (slice_index_or weights k no_weight) p (part.after k (omega arith) below);
        })
        ∙ ap (λ x. x.weight) is
    by_test entry false is here = none_says weights (pos 0) p (record {
      each = λ k below. elim (cases_lt k place) [
        | inl early ↦ passed (slice_index_or weights k no_weight) entry p (rw is at (rise k place early (omega (arith, part.within)))) (rw is at (part.before place (omega arith)))
        | inr other ↦ elim (cases_lt place k) [
          | inl above ↦ late (slice_index_or weights k no_weight) p (part.after k (omega arith) below)
          | inr under ↦ let same : k ≡ place = omega arith in rw (same, is) here
        ]
      ];
    })
