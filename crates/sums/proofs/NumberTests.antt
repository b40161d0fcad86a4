-- Tests of numbers and what they pick, for the crates above.
use Rattle.std.proofs.Common.{◌≡◌, ◌≢◌, ℕ, ◌<◌, ◌≤◌, Bool, true, false, cond, eqb, ◌==◌, if◌then◌else◌, refl, arith}
use Rattle.std.proofs.lemmas.Bool.Decides.{nat_tests}
use Rattle.sums.proofs.Tests.{by_test}

-- ---- what a test tells
pub some_tested : (n : ℕ) → (n == 0) ≡ false → 0 < n
some_tested n e = grind (arith, nat_tests)

pub less_differs : (m n : ℕ) → m < n → (m == n) ≡ false
less_differs m n less = grind (arith, nat_tests)

pub greater_differs : (m n : ℕ) → n < m → (m == n) ≡ false
greater_differs m n less = grind (arith, nat_tests)

-- ---- what it picks
pub if_same : {X : Type 0} (m n : ℕ) (x y : X) → m ≡ n → cond (eqb m n) x y ≡ x
if_same m n x y e = grind (arith, nat_tests)

pub if_apart : {X : Type 0} (m n : ℕ) (x y : X) → m ≢ n → cond (eqb m n) x y ≡ y
if_apart m n x y e = grind (arith, nat_tests)

-- at one place alone
pub if_at : (place k : ℕ) (f : ℕ → ℕ) → ◌≡◌ {A = ℕ} (if place == k then f k else 0) (if place == k then f place else 0)
if_at place k f = by_test (place == k)
    (λ here. let same : place ≡ k = grind (arith, nat_tests) in rw same refl)
    (λ off. rw off refl)

-- a number or 0
pub if_below : (b : Bool) (n most : ℕ) → n ≤ most → (if b then n else 0) ≤ most
if_below true n most below = below
if_below false n most below = omega arith
