-- Functions of numbers with a value replaced.
use Rattle.std.proofs.Common.{◌≡◌, ◌≢◌, ℕ, zero, suc, ◌<◌, ◌==◌, if◌then◌else◌, Option, ℤ, inl, inr, refl, sym, ◌∙◌, ap, subst, arith}
use Rattle.std.proofs.lemmas.Bool.{cases_eq, cases_lt, cond-false, cond-true, eq-eqb, ne_eqb}
use Rattle.fleet_model.specs.declared.tables.Tables.{Tables}
use Rattle.dual_bound.specs.Bound.{lesser_bound}
use Rattle.node_bounding.specs.Made.{IsMadeAs, best_before}
use Rattle.node_bounding.specs.Worked.{Worked}

abbrev pub put_at : {X : Type 0} → (ℕ → X) → ℕ → X → ℕ → X
put_at f n x k = if k == n then x else f k

pub put_here : {X : Type 0} (f : ℕ → X) (n : ℕ) (x : X) → put_at f n x n ≡ x
put_here f n x = cond-true (n == n) x (f n) (eq-eqb n n refl)

pub put_else : {X : Type 0} (f : ℕ → X) (n : ℕ) (x : X) (k : ℕ) → k ≢ n → put_at f n x k ≡ f k
put_else f n x k other = cond-false (k == n) x (f k) (ne_eqb k n other)

-- one value replaced, and two more behind the first n
abbrev pub put_three : {X : Type 0} → (ℕ → X) → ℕ → X → ℕ → X → X → ℕ → X
put_three f b x n y z = put_at (put_at (put_at f b x) n y) (suc n) z

-- each number below n, and two more
pub by_new : (P : ℕ → Type 0) (b n : ℕ) → P b → ((k : ℕ) → k < n → k ≢ b → P k) → P n → P (suc n) → (k : ℕ) → k < suc (suc n) → P k
by_new P b n here old first second k less = elim (cases_lt k n) [
  | inl before ↦ elim (cases_eq k b) [
    | inl same ↦ subst P (sym same) here
    | inr other ↦ old k before other
  ]
  | inr after ↦ elim (cases_lt n k) [
    | inl past ↦ let same : k ≡ suc n = omega (arith, past, less) in subst P (sym same) second
    | inr not_past ↦ let same : k ≡ n = omega (arith, after, not_past) in subst P (sym same) first
  ]
]

module _ {X : Type 0} (f : ℕ → X) (b n : ℕ) (x y z : X) where
  pub three_old : (k : ℕ) → k < n → k ≢ b → put_three f b x n y z k ≡ f k
  three_old k less other = put_else (put_at (put_at f b x) n y) (suc n) z k (omega (arith, less)) ∙ put_else (put_at f b x) n y k (omega (arith, less)) ∙ put_else f b x k other

  pub three_here : b < n → put_three f b x n y z b ≡ x
  three_here less = put_else (put_at (put_at f b x) n y) (suc n) z b (omega (arith, less)) ∙ put_else (put_at f b x) n y b (omega (arith, less)) ∙ put_here f b x

  pub three_first : put_three f b x n y z n ≡ y
  three_first = put_else (put_at (put_at f b x) n y) (suc n) z n (omega arith) ∙ put_here (put_at f b x) n y

  pub three_second : put_three f b x n y z (suc n) ≡ z
  three_second = put_here (put_at (put_at f b x) n y) (suc n) z

  -- each value
  pub each_three : (P : X → Type 0) → b < n → P x → ((k : ℕ) → k < n → k ≢ b → P (f k)) → P y → P z → (k : ℕ) → k < suc (suc n) → P (put_three f b x n y z k)
  each_three P within here old first second = by_new (λ k. P (put_three f b x n y z k)) b n
      (subst P (sym (three_here within)) here) (λ k less other. subst P (sym (three_old k less other)) (old k less other)) (subst P (sym three_first) first) (subst P (sym three_second) second)

-- the best costs so far depend on what was found before alone
pub same_best : (f g : ℕ → Option ℤ) (n : ℕ) → ((k : ℕ) → k < n → f k ≡ g k) → best_before f n ≡ best_before g n
same_best f g zero same = refl
same_best f g (suc n) same = ap (λ c. lesser_bound c (f n)) (same_best f g n (λ k less. same k (omega (arith, less)))) ∙ ap (lesser_bound (best_before g n)) (same n (omega arith))

-- what became of a subproblem, with its parts replaced by equal ones
abbrev pub As : Tables → Option ℤ → Worked → Option ℤ → Type 0
As t x w y = IsMadeAs t x w.keeps w.node y

pub moved : (t : Tables) (x u : Option ℤ) (w v : Worked) (y z : Option ℤ) → x ≡ u → w ≡ v → y ≡ z → As t u v z → As t x w y
moved t x u w v y z p q r holds = subst (λ x. As t x w y) (sym p) (subst (λ w. As t u w y) (sym q) (subst (λ y. As t u v y) (sym r) holds))
