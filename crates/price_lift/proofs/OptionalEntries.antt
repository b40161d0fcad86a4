-- Entries one behind another, each there or not: where each stands, and which stands at a place.
use Rattle.std.proofs.Common.{◌≡◌, ℕ, zero, suc, ◌+◌, ◌<◌, ◌≤◌, Bool, true, if◌then◌else◌, List, [], ◌∷◌, ◌++◌, length, get_or, sym, ◌∙◌, ap, subst, inl, inr, length-append, arith}
use Rattle.std.proofs.lemmas.Bool.{cases_lt}
use Rattle.std.proofs.lemmas.List.{get_or_append_left}
use Rattle.sums.proofs.Tests.{at_most_one, by_test}
use Rattle.sums.proofs.Naturals.{plus_0}
use Rattle.lp_rows.specs.Layout.{concat_below}
use Rattle.lp_rows.proofs.ListPlaces.{at_right}
use Rattle.lp_rows.proofs.Counted.{length-one}

module _ {X : Type 0} (there : ℕ → Bool) (entry : ℕ → X) where
  abbrev pub where_there : ℕ → List X
  where_there k = if there k then entry k ∷ [] else []

  -- how many stand before a number
  abbrev pub rank : ℕ → ℕ
  rank n = length (concat_below where_there n)

  next_rank : (n : ℕ) → rank (suc n) ≡ rank n + (if there n then 1 else 0)
  next_rank n = length-append (concat_below where_there n) (where_there n) ∙ ap (λ k. rank n + k) (length-one (there n) (entry n))

  rank_there : (n : ℕ) → there n ≡ true → rank (suc n) ≡ rank n + 1
  rank_there n e = next_rank n ∙ ap (λ b. rank n + (if b then 1 else 0)) e

  pub few_there : (n : ℕ) → rank n ≤ n
  few_there zero = omega arith
  few_there (suc n) = omega (arith, few_there n, next_rank n, at_most_one (there n))

  -- an entry that is there stands at its rank
  pub stands : (n k : ℕ) (d : X) → k < n → there k ≡ true → (rank k < rank n) × (get_or (concat_below where_there n) (rank k) d ≡ entry k)
  stands zero k d below e = absurd (omega arith)
  stands (suc n) k d below e = elim (cases_lt k n) [
    | inl less ↦
        let before = stands n k d less e in (
          omega (arith, before.0, next_rank n),
          get_or_append_left (concat_below where_there n) (where_there n) d (rank k) before.0 ∙ before.1,
        )
    | inr last ↦
        let same : n ≡ k = omega arith in
        let here : there n ≡ true = ap there same ∙ e in
        subst (λ j. (rank j < rank (suc n)) × (get_or (concat_below where_there n ++ where_there n) (rank j) d ≡ entry j)) same (
          omega (arith, rank_there n here),
          ap (λ b. get_or (concat_below where_there n ++ (if b then entry n ∷ [] else [])) (rank n) d) here
              ∙ ap (λ i. get_or (concat_below where_there n ++ entry n ∷ []) i d) (sym (plus_0 (rank n))) ∙ at_right (concat_below where_there n) (entry n ∷ []) d 0,
        )
  ]

  -- the number of the entry at a place
  pub number_at : (n i : ℕ) → i < rank n → (k : ℕ) × (k < n) × (there k ≡ true) × (rank k ≡ i)
  number_at zero i below = absurd (omega arith)
  number_at (suc n) i below = elim (cases_lt i (rank n)) [
    | inl before ↦ let at = number_at n i before in (at.0, omega (arith, at.1), at.2, at.3)
    | inr past ↦ by_test (there n)
        (λ e. (n, omega arith, e, omega (arith, rank_there n e)))
        (λ e. absurd (omega (arith, next_rank n, ap {B = ℕ} (λ b. if b then 1 else 0) e)))
  ]
