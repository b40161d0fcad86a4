-- What is left to step falls with each split into parts of a subproblem.
use Rattle.std.proofs.Common.{◌≡◌, ◌≢◌, ℕ, zero, suc, ◌<◌, ◌≤◌, Bool, true, false, ◌&&◌, if◌then◌else◌, IsTrue, sym, subst, inl, inr, arith}
use Rattle.std.proofs.lemmas.Bool.{cases_lt}
use Rattle.std.proofs.lemmas.Bool.Decides.{nat_tests}
use Rattle.sums.specs.Below.{sum_below}
use Rattle.sums.proofs.Counts.{count_below-one, count_below-some}
use Rattle.sums.proofs.Sums.{sum_below-le}
use Rattle.fleet_model.specs.Kept.{Domains, kept_on, leaves, narrowed}
use Rattle.fleet_model.specs.LeftOut.{left_out_on, steps_left, steps_on}
use Rattle.fleet_model.specs.Schedule.{IsPair, choices_in, leg_on, legs_in}
use Rattle.fleet_model.specs.declared.kept.Step.{Step}
use Rattle.fleet_model.specs.declared.tables.Tables.{Tables}
use Rattle.fleet_model.proofs.LeftOut.{left_out_once}
use Rattle.dual_bound.specs.Bound.{part}
use Rattle.node_bounding.specs.Splits.{KeepsOther}

abbrev one_if : Bool → ℕ
one_if b = if b then 1 else 0

-- a sum falls where one term falls and none rises
less_below : (f g : ℕ → ℕ) (n place : ℕ) → ((k : ℕ) → k < n → f k ≤ g k) → place < n → f place < g place → sum_below f n < sum_below g n
less_below f g zero place each within falls = absurd (omega arith)
less_below f g (suc n) place each within falls = elim (cases_lt place n) [
  | inl before ↦ omega (arith, less_below f g n place (λ k below. each k (omega arith)) before falls, each n (omega arith))
  | inr last ↦
      let same : place ≡ n = omega arith in
      let here : f n < g n = subst (λ k. f k < g k) same falls in
      omega (arith, here, sum_below-le f g n (record { each = λ k below. each k (omega arith) }))
]

-- a test that asks for more passes no more
less_and : (b c : Bool) → one_if (b && c) ≤ one_if b
less_and true true = omega arith
less_and true false = omega arith
less_and false c = omega arith

drops : (b c : Bool) → b ≡ true → c ≡ false → one_if (b && c) < one_if b
drops b c p q = rw (p, q) (omega arith)

-- a pair of a leg is kept, and not left by a step
record IsDropped (t : Tables) (keeps : Domains) (step : Step) (leg choice : ℕ) : Type 0 where
  pair : IsPair t (leg_on leg choice)
  kept : keeps (leg_on leg choice) ≡ true
  dropped : leaves step (leg_on leg choice) ≡ false

module _ (t : Tables) (keeps : Domains) (step : Step) where
  -- a step leaves no leg more choices
  on_no_more : (l : ℕ) → kept_on t (narrowed keeps step) l ≤ kept_on t keeps l
  on_no_more l = sum_below-le _ _ (choices_in t l) (record { each = λ c below. less_and (keeps (leg_on l c)) (leaves step (leg_on l c)) })

  -- and fewer to a leg of which it drops one
  on_fewer : (leg choice : ℕ) → IsDropped t keeps step leg choice → kept_on t (narrowed keeps step) leg < kept_on t keeps leg
  on_fewer leg choice drop =
      less_below (λ c. one_if (keeps (leg_on leg c) && leaves step (leg_on leg c))) (λ c. one_if (keeps (leg_on leg c))) (choices_in t leg) choice
      (λ c below. less_and (keeps (leg_on leg c)) (leaves step (leg_on leg c))) drop.pair.choice (drops (keeps (leg_on leg choice)) (leaves step (leg_on leg choice)) drop.kept drop.dropped)

  -- so less is left to step, where its leg keeps more than the choice by which it may be left out
  fewer_by : (leg choice : ℕ) → IsDropped t keeps step leg choice → left_out_on t leg < kept_on t keeps leg → steps_left t (narrowed keeps step) < steps_left t keeps
  fewer_by leg choice drop more =
      less_below (steps_on t (narrowed keeps step)) (steps_on t keeps) (legs_in t) leg (λ l below. omega (arith, on_no_more l)) drop.pair.leg (omega (arith, on_fewer leg choice drop, more))

module _ (t : Tables) (keeps : Domains) (leg choice : ℕ) (pair : IsPair t (leg_on leg choice)) (kept : IsTrue (keeps (leg_on leg choice))) (other : KeepsOther t keeps leg choice) where
  -- a leg that keeps this choice and another keeps not just one
  pub not_one : kept_on t keeps leg ≢ 1
  not_one one = other.differs (sym (count_below-one (λ c. keeps (leg_on leg c)) (choices_in t leg) choice other.other one pair.choice other.known kept other.kept))

  -- so one of them is no choice by which it may be left out
  more : left_out_on t leg < kept_on t keeps leg
  more = omega (arith, not_one, count_below-some (λ c. keeps (leg_on leg c)) (choices_in t leg) choice pair.choice kept, left_out_once t leg)

  -- the part in which the leg takes the choice
  pub fewer_with : steps_left t (part keeps leg choice true) < steps_left t keeps
  fewer_with = fewer_by t keeps (record { leg = leg; choice = choice; yes = true }) leg other.other (record {
    pair = record { leg = pair.leg; choice = other.known };
    kept = other.kept;
    dropped = grind (arith, nat_tests, other.differs);
  }) more

  -- .. and that in which it doesn't
  pub fewer_without : steps_left t (part keeps leg choice false) < steps_left t keeps
  fewer_without = fewer_by t keeps (record { leg = leg; choice = choice; yes = false }) leg choice (record {
    pair = pair;
    kept = kept;
    dropped = grind (arith, nat_tests);
  }) more
