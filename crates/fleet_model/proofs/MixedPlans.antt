-- A legal assignment of kept pairs is a mixed plan.
use Rattle.std.proofs.Common.{◌≡◌, ℕ, ◌<◌, Bool, true, false, if◌then◌else◌, ◌==◌, IsTrue, List, ℤ, pos, ◌*ℤ◌, refl, ◌∙◌, subst, arith}
use mathlib.Core.Bool.{false≢true}
use Rattle.std.specs.Prelude.{unwrap_or}
use Rattle.std.proofs.lemmas.Bool.Decides.{nat_tests}
use lib.IntN.{zero-*ℤ}
use Rattle.sums.specs.Below.{sum_below_ℤ}
use Rattle.sums.proofs.Integers.{one-*ℤ}
use Rattle.sums.proofs.Sums.{sum_below-one}
use Rattle.sums.proofs.WholeSums.{sum_below_ℤ-same}
use Rattle.sums.proofs.WholeSwaps.{sum_below_ℤ-one, where_true}
use Rattle.fleet_model.specs.declared.tables.Tables.{Tables}
use Rattle.fleet_model.specs.Counts.{choice_at, weights_of}
use Rattle.fleet_model.specs.Kept.{Domains, IsKeptAssignment}
use Rattle.fleet_model.specs.Legal.{IsAssignment, cost_of, leg_cost, total_cost}
use Rattle.fleet_model.specs.Mixed.{LegalIsMixed, mixed_cost, weighted_cost}
use Rattle.fleet_model.specs.Schedule.{choices_in, leg_on, legs_in}

-- a weight of 1 where a test passes, times a number
test_times : (b : Bool) (z : ℤ) → pos (if b then 1 else 0) *ℤ z ≡ where_true b z
test_times true z = one-*ℤ z
test_times false z = zero-*ℤ z

-- a pair that isn't kept is no pair of the assignment
no_weight : (t : Tables) (keeps : Domains) (a : List ℕ) → IsKeptAssignment t keeps a → (l f : ℕ) → l < legs_in t → keeps (leg_on l f) ≡ false → weights_of a (leg_on l f) ≡ 0
no_weight t keeps a kept l f below not_kept = by_test (choice_at a l == f) refl
  where
    differs : choice_at a l ≡ f → ⊥
    differs same = let there : IsTrue (keeps (leg_on l f)) = subst (λ g. IsTrue (keeps (leg_on l g))) same (kept.kept l below) in false≢true (rw not_kept at there)

    by_test : (b : Bool) → (choice_at a l == f) ≡ b → ◌≡◌ {A = ℕ} (if choice_at a l == f then 1 else 0) 0
    by_test true e = absurd (differs (grind (arith, nat_tests)))
    by_test false e = rw e refl

cost_on : (t : Tables) (a : List ℕ) → IsAssignment t a → (l : ℕ) → l < legs_in t → sum_below_ℤ (weighted_cost t (weights_of a) l) (choices_in t l) ≡ leg_cost t a l
cost_on t a known l below =
    sum_below_ℤ-same (weighted_cost t (weights_of a) l) (λ f. where_true (choice_at a l == f) (units f)) (choices_in t l) (λ f lt. test_times (choice_at a l == f) (units f))
    ∙ sum_below_ℤ-one (choice_at a l) units (choices_in t l) (known.known l below)
  where
    units : ℕ → ℤ
    units f = unwrap_or (cost_of t (leg_on l f)) (pos 0)

pub legal_is_mixed : LegalIsMixed
unfolding mixed_cost total_cost
legal_is_mixed t keeps a kept legal = record {
  plan = record {
    kept = λ p known not_kept. no_weight t keeps a kept p.leg p.choice known.leg not_kept;
    cover = λ l below. sum_below-one (choice_at a l) 1 (choices_in t l) (kept.assignment.known l below);
    balanced = legal.balanced;
    within = λ f below. omega (arith, legal.within.each f below);
    room = legal.room;
  };
  cost = sum_below_ℤ-same (λ l. sum_below_ℤ (weighted_cost t (weights_of a) l) (choices_in t l)) (leg_cost t a) (legs_in t) (cost_on t a kept.assignment);
}
