use Rattle.std.proofs.Common.{◌≡◌, ◌+◌, ◌-◌, ◌%◌, ◌<◌, ◌≤◌, ℕ, slice_index, inl, inr, arith, subst, sym}
use Rattle.std.proofs.lemmas.Bool.{cases_lt}
use Rattle.plan_rotations.proofs.through_flights.waits.longest_wait.Goals as goal
use Rattle.plan_rotations.proofs.through_flights.waits.longest_wait.Goals.{then-until-longest, else-until-longest}

no_more : (f : ℕ → ℕ) (n old until new : ℕ) → ((k : ℕ) → k < n → old ≤ f k) → until ≡ f n → new ≤ old → new ≤ until → (k : ℕ) → k < n + 1 → new ≤ f k
no_more f n old until new before e le le' k lt = elim (cases_lt k n) [
  | inl less ↦ omega (arith, before k less)
  | inr ge ↦ let same : k ≡ n = omega arith in subst (λ j. new ≤ f j) (sym same) (omega arith)
]

all : (f : ℕ → ℕ) (period n old until : ℕ) → ((wait : ℕ) → wait < period → ((k : ℕ) → k < n → wait ≤ f k) → wait ≤ old) → until ≡ f n
    → (wait : ℕ) → wait < period → ((k : ℕ) → k < n + 1 → wait ≤ f k) → (wait ≤ old) × (wait ≤ until)
all f period n old until before e wait lt each = (before wait lt (λ k less. each k (omega arith)), omega (arith, each n (omega arith)))

pub loop-zero-preserved : goal.loop-zero-preserved
loop-zero-preserved c =
    let f = λ (k : ℕ). (slice_index c.args.zeros.now k + c.args.period - c.args.ready) % c.args.period in
    elim c.if-until-longest.branch [
      | then-until-longest w ↦ record {
        no_more = no_more f _ c.loop-zero.longest _ _ c.loop-zero.invariant.no_more c.minutes_until-until.ensures.value (omega arith) (omega arith);
        all = λ wait lt each. rw w.longest-is (all f c.args.period _ _ _ c.loop-zero.invariant.all c.minutes_until-until.ensures.value wait lt each).1;
      }
      | else-until-longest w ↦ record {
        no_more = no_more f _ c.loop-zero.longest _ _ c.loop-zero.invariant.no_more c.minutes_until-until.ensures.value (omega arith) (omega arith);
        all = λ wait lt each. rw w.longest-is (all f c.args.period _ _ _ c.loop-zero.invariant.all c.minutes_until-until.ensures.value wait lt each).0;
      }
    ]
