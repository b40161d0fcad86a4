-- Bounds of the least of kept numbers, times a factor.
use Rattle.std.proofs.Common.{◌≡◌, ℕ, zero, suc, ◌+◌, ◌<◌, Bool, true, false, cond, if◌then◌else◌, Option, Some, None, ℤ, pos, ◌*ℤ◌, ◌≤ℤ◌, refl, sym, subst, arith}
use Rattle.std.specs.Prelude.{int_le, unwrap_or, ⊤}
use Rattle.sums.specs.Below.{count_below}
use Rattle.dual_bound.specs.Worth.{least_below, lesser}

-- no more than so many times the least, where there is one
abbrev pub IsBelow : ℤ → ℤ → Option ℤ → Type 0
IsBelow h z None = ⊤
IsBelow h z (Some w) = z ≤ℤ (h *ℤ w)

either : (h z a b : ℤ) (c : Bool) → z ≤ℤ (h *ℤ a) → z ≤ℤ (h *ℤ b) → z ≤ℤ (h *ℤ cond c a b)
either h z a b true p q = p
either h z a b false p q = q

below_lesser : (h z : ℤ) (o : Option ℤ) (w : ℤ) → IsBelow h z o → z ≤ℤ (h *ℤ w) → z ≤ℤ (h *ℤ lesser o w)
below_lesser h z None w p q = q
below_lesser h z (Some v) w p q = either h z v w (int_le v w) p q

below_least : (h z : ℤ) (keeps : ℕ → Bool) (g : ℕ → ℤ) (n : ℕ) → ((f : ℕ) → f < n → keeps f ≡ true → z ≤ℤ (h *ℤ g f)) → IsBelow h z (least_below keeps g n)
unfolding least_below
below_least h z keeps g zero each = tt
below_least h z keeps g (suc n) each =
    by_test (keeps n) (λ kept. below_lesser h z (least_below keeps g n) (g n) (below_least h z keeps g n (λ f less. each f (omega arith))) (each n (omega arith) kept)) (below_least h z keeps g n (λ f less. each f (omega arith)))
  where
    by_test : (b : Bool) → (b ≡ true → IsBelow h z (Some (lesser (least_below keeps g n) (g n)))) → IsBelow h z (least_below keeps g n) → IsBelow h z (if b then Some (lesser (least_below keeps g n) (g n)) else least_below keeps g n)
    by_test true p q = p refl
    by_test false p q = q

some_kept : (b : Bool) (o : Option ℤ) (z : ℤ) (n : ℕ) → 0 < n + (if b then 1 else 0) → (0 < n → (w : ℤ) × (o ≡ Some w)) → (w : ℤ) × ((if b then Some z else o) ≡ Some w)
some_kept true o z n some before = (z, refl)
some_kept false o z n some before = before (omega arith)

some_least : (keeps : ℕ → Bool) (g : ℕ → ℤ) (n : ℕ) → 0 < count_below keeps n → (w : ℤ) × (least_below keeps g n ≡ Some w)
unfolding least_below
some_least keeps g zero some = absurd (omega arith)
some_least keeps g (suc n) some = some_kept (keeps n) (least_below keeps g n) (lesser (least_below keeps g n) (g n)) (count_below keeps n) some (λ before. some_least keeps g n before)

pub below_unwrapped : (h z : ℤ) (keeps : ℕ → Bool) (g : ℕ → ℤ) (n : ℕ) → ((f : ℕ) → f < n → keeps f ≡ true → z ≤ℤ (h *ℤ g f)) → 0 < count_below keeps n
    → z ≤ℤ (h *ℤ unwrap_or (least_below keeps g n) (pos 0))
below_unwrapped h z keeps g n each some =
    let least = some_least keeps g n some in
    let bound : IsBelow h z (Some least.0) = subst (λ o. IsBelow h z o) least.1 (below_least h z keeps g n each) in
    subst (λ o. z ≤ℤ (h *ℤ unwrap_or o (pos 0))) (sym least.1) bound
