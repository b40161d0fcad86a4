-- Lists that grow by one entry.
use Rattle.std.proofs.Common.{◌≡◌, ℕ, ◌+◌, ◌<◌, List, [], ◌∷◌, ◌++◌, length, get_or, sym, ◌∙◌, ap, subst, inl, inr, arith, length-append}
use Rattle.std.proofs.lemmas.Bool.{cases_lt}
use Rattle.std.proofs.Math.ListN.{get_or-append}
use Rattle.std.proofs.Math.Seq.{get_or-append_seam}

-- what holds of each entry before and of the new one holds of each
pub pushed : {X : Type 0} (P : ℕ → X → Type 0) (d : X) (xs ys : List X) (n : ℕ) (x : X) → ys ≡ xs ++ x ∷ [] → length xs ≡ n
    → ((k : ℕ) → k < n → P k (get_or xs k d)) → P n x → (k : ℕ) → k < n + 1 → P k (get_or ys k d)
pushed P d xs ys n x grown size before here k lt = elim (cases_lt k n) [
  | inl less ↦ subst (P k) (sym (ap (λ zs. get_or zs k d) grown ∙ get_or-append xs (x ∷ []) d k (subst (λ m. k < m) (sym size) less))) (before k less)
  | inr ge ↦
      let same : k ≡ n = omega arith in
      let there : get_or ys n d ≡ x = ap (λ zs. get_or zs n d) grown ∙ ap (λ m. get_or (xs ++ x ∷ []) m d) (sym size) ∙ get_or-append_seam xs x [] d in
      subst (λ m. P m (get_or ys m d)) (sym same) (subst (P n) (sym there) here)
]

pub one_longer : {X : Type 0} (xs ys : List X) (n : ℕ) (x : X) → ys ≡ xs ++ x ∷ [] → length xs ≡ n → length ys ≡ n + 1
one_longer xs ys n x grown size = ap length grown ∙ length-append xs (x ∷ []) ∙ ap (λ m. m + 1) size
