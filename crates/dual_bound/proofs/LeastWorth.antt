-- The least worth of kept pairs, one pair at a time.
use Rattle.std.proofs.Common.{◌≡◌, ℕ, ◌+◌, Bool, true, false, if◌then◌else◌, Option, Some, None, ℤ, IfSome, add-one, sym, ◌∙◌, ap, subst, arith}
use Rattle.std.specs.Prelude.{int_le}
use Rattle.dual_bound.specs.Sizes.{IsUpTo}
use Rattle.dual_bound.specs.Worth.{least_below, lesser}
use Rattle.dual_bound.proofs.Numbers.{held, is_held}

either : (b : Bool) (y z : ℤ) → IsUpTo 7 y → IsUpTo 7 z → IsUpTo 7 (if b then y else z)
either true y z p q = p
either false y z p q = q

small_lesser : (least : Option ℤ) (worth : ℤ) → IfSome least (λ z. IsUpTo 7 z) → IsUpTo 7 worth → IsUpTo 7 (lesser least worth)
small_lesser None worth small_least small = small
small_lesser (Some y) worth small_least small = either (int_le y worth) y worth small_least small

-- the lesser of two small numbers is held as it is
lesser_held : (least : Option ℤ) (worth value : ℤ) → IfSome least (λ z. IsUpTo 7 z) → IsUpTo 7 worth → value ≡ lesser least (held worth) → held value ≡ lesser least worth
lesser_held least worth value small_least small is =
    ap held (is ∙ ap (λ z. lesser least z) (is_held 7 worth small (omega arith))) ∙ is_held 7 (lesser least worth) (small_lesser least worth small_least small) (omega arith)

pub least_small : (least : Option ℤ) (worth value : ℤ) → IfSome least (λ z. IsUpTo 7 z) → IsUpTo 7 worth → value ≡ lesser least (held worth) → IsUpTo 7 (held value)
least_small least worth value small_least small is =
    subst (λ z. IsUpTo 7 z) (sym (lesser_held least worth value small_least small is)) (small_lesser least worth small_least small)

-- with a pair that is kept
pub least_kept : (keeps : ℕ → Bool) (f : ℕ → ℤ) (n : ℕ) (least : Option ℤ) (worth value : ℤ) → keeps n ≡ true → least ≡ least_below keeps f n → IfSome least (λ z. IsUpTo 7 z) → worth ≡ f n → IsUpTo 7 worth
    → value ≡ lesser least (held worth) → Some (held value) ≡ least_below keeps f (n + 1)
unfolding least_below
least_kept keeps f n least worth value kept e small_least same small is =
    rw (add-one n) (rw kept (ap Some (lesser_held least worth value small_least small is ∙ ap (λ z. lesser least z) same ∙ ap (λ o. lesser o (f n)) e)))

-- with one that is not
pub least_passed : (keeps : ℕ → Bool) (f : ℕ → ℤ) (n : ℕ) (least : Option ℤ) → keeps n ≡ false → least ≡ least_below keeps f n → least ≡ least_below keeps f (n + 1)
unfolding least_below
least_passed keeps f n least passed e = rw (add-one n) (rw passed e)
