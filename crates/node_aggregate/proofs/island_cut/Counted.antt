-- Tests of numbers below a bound: where none passes, each fails, and the first that passes.
use Rattle.std.proofs.Common.{◌≡◌, ℕ, zero, suc, ◌<◌, ◌==◌, Bool, true, false, if◌then◌else◌, Option, Some, None, unwrap_or, refl, sym, ◌∙◌, ap, arith}
use Rattle.sums.specs.Below.{count_below}
use Rattle.sums.specs.Places.{first_below, or_else}
use Rattle.sums.proofs.Counts.{count_below-some}
use Rattle.sums.proofs.Naturals.{zero_number}
use Rattle.sums.proofs.Places.{nothing_at}
use Rattle.sums.proofs.Sums.{sum_below-agree, sum_below-zero}
use Rattle.sums.proofs.Tests.{by_test, none_some, some_is}
use Rattle.node_aggregate.specs.island_cut.Islands.{first_passing}

-- where the count is 0, each number fails
pub none_counted : (p : ℕ → Bool) (n k : ℕ) → (count_below p n == 0) ≡ true → k < n → p k ≡ false
none_counted p n k e below = by_test (p k)
    (λ passes. absurd (omega (arith, zero_number (count_below p n) e, count_below-some p n k below passes)))
    (λ fails. fails)

-- where each number fails, the count is 0
pub count_none : (p : ℕ → Bool) (n : ℕ) → ((k : ℕ) → k < n → p k ≡ false) → (count_below p n == 0) ≡ true
count_none p n each =
    let none : count_below p n ≡ 0 = sum_below-agree (λ k. if p k then 1 else 0) (λ k. 0) n (record { each = λ k below. ap (λ b. if b then 1 else 0) (each k below) }) ∙ sum_below-zero n in
    rw none refl

-- what a first place gives is given at a place
pub gives_first : {X : Type 0} (f : ℕ → Option X) (n : ℕ) (x : X) → first_below f n ≡ Some x → (k : ℕ) × (k < n) × (f k ≡ Some x)
gives_first f zero x e = absurd (none_some e)
gives_first {X} f (suc n) x e = by_first (first_below f n) refl (gives_first f n x)
  where
    by_first : (o : Option X) → first_below f n ≡ o → (first_below f n ≡ Some x → (k : ℕ) × (k < n) × (f k ≡ Some x)) → (k : ℕ) × (k < suc n) × (f k ≡ Some x)
    by_first (Some y) given front =
        let same : Some y ≡ Some x = ap (λ o. or_else o (f n)) (sym given) ∙ e in
        let found = front (given ∙ same) in
        (found.0, omega (arith, found.1), found.2)
    by_first None none front = (n, omega arith, ap (λ o. or_else o (f n)) (sym none) ∙ e)

-- of numbers of which one passes, the first one that does
pub first_passes : (p : ℕ → Bool) (n k : ℕ) → k < n → p k ≡ true → (first_passing p n < n) × (p (first_passing p n) ≡ true)
first_passes p n k below passes = by_first (first_below (λ j. if p j then Some j else None) n) refl
  where
    at : (j : ℕ) (b : Bool) (x : ℕ) → p j ≡ b → ◌≡◌ {A = Option ℕ} (if b then Some j else None) (Some x) → (j ≡ x) × (p j ≡ true)
    at j true x e some = (some_is j x some, e)
    at j false x e some = absurd (none_some some)

    by_first : (o : Option ℕ) → first_below (λ j. if p j then Some j else None) n ≡ o → (first_passing p n < n) × (p (first_passing p n) ≡ true)
    by_first (Some x) given =
        let found = gives_first (λ j. if p j then Some j else None) n x given in
        let is = at found.0 (p found.0) x refl found.2 in
        let there : first_passing p n ≡ found.0 = ap (λ o. unwrap_or o 0) given ∙ sym is.0 in
        rw there (found.1, is.1)
    by_first None none =
        let nothing : ◌≡◌ {A = Option ℕ} (if p k then Some k else None) None = nothing_at (λ j. if p j then Some j else None) n k none below in
        let some : ◌≡◌ {A = Option ℕ} (if p k then Some k else None) (Some k) = ap (λ b. if b then Some k else None) passes in
        absurd (none_some (sym nothing ∙ some))
