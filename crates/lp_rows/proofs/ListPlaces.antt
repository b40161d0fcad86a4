-- Entries of lists one behind another.
use Rattle.std.proofs.Common.{◌≡◌, ℕ, zero, suc, ◌+◌, ◌-◌, ◌<◌, List, [], ◌∷◌, ◌++◌, length, get_or, map, ℤ, ◌+ℤ◌, refl, sym, ◌∙◌, ap, subst, inl, inr, arith, length-append}
use Rattle.std.proofs.lemmas.Bool.{cases_lt}
use Rattle.std.proofs.lemmas.List.{get_or-map, get_or_append_left, length-map}
use Rattle.sums.specs.Below.{sum_below, sum_below_ℤ}
use Rattle.sums.specs.Places.{list_below}
use Rattle.sums.proofs.Places.{get_or-list_below, length-list_below}
use Rattle.sums.proofs.WholeTerms.{sum_below_ℤ-stretches}
use Rattle.lp_rows.specs.Layout.{concat_below}
use Rattle.lp_rows.specs.Outline.{StandsAt}
use Rattle.lp_rows.proofs.Counted.{length-concat}

pub at_right : {X : Type 0} (xs ys : List X) (d : X) (k : ℕ) → get_or (xs ++ ys) (length xs + k) d ≡ get_or ys k d
at_right [] ys d k = ap (λ n. get_or ys n d) (omega arith)
at_right (x ∷ xs) ys d k = subst (λ n. get_or (x ∷ (xs ++ ys)) n d ≡ get_or ys k d) (sym next) (at_right xs ys d k)
  where
    next : length (x ∷ xs) + k ≡ suc (length xs + k)
    next = omega arith

pub at_right_of : {X : Type 0} (xs ys : List X) (d : X) (n k : ℕ) → length xs ≡ n → get_or (xs ++ ys) (n + k) d ≡ get_or ys k d
at_right_of xs ys d n k long = ap (λ m. get_or (xs ++ ys) (m + k) d) (sym long) ∙ at_right xs ys d k

-- .. and before the end of all
pub within_sum : (count : ℕ → ℕ) (n i k : ℕ) → i < n → k < count i → sum_below count i + k < sum_below count n
within_sum count zero i k less below = absurd (omega arith)
within_sum count (suc n) i k less below = elim (cases_lt i n) [
  | inl before ↦ omega (arith, within_sum count n i k before below)
  | inr last ↦ let same : i ≡ n = omega arith in omega (arith, ap (sum_below count) same, ap count same)
]

-- an entry of the list of a number stands behind all lists before
pub at_concat : {X : Type 0} (g : ℕ → List X) (count : ℕ → ℕ) (d : X) (n i k : ℕ) → ((j : ℕ) → j < n → length (g j) ≡ count j) → i < n → k < count i
    → get_or (concat_below g n) (sum_below count i + k) d ≡ get_or (g i) k d
at_concat g count d zero i k long here below = absurd (omega arith)
at_concat g count d (suc n) i k long here below = elim (cases_lt i n) [
  | inl before ↦
      get_or_append_left (concat_below g n) (g n) d (sum_below count i + k) (omega (arith, length-concat g count n (λ j less. long j (omega arith)), within_sum count n i k before below))
      ∙ at_concat g count d n i k (λ j less. long j (omega arith)) before below
  | inr last ↦
      let same : i ≡ n = omega arith in
      ap (λ j. get_or (concat_below g n ++ g n) (sum_below count j + k) d) same
      ∙ at_right_of (concat_below g n) (g n) d (sum_below count n) k (length-concat g count n (λ j less. long j (omega arith)))
      ∙ ap (λ j. get_or (g j) k d) (sym same)
]

-- ---- a number among those of lists one behind another
pub record IsSplit (count : ℕ → ℕ) (n place : ℕ) : Type 0 where
  pub list : ℕ
  pub rest : ℕ
  pub known : list < n
  pub within : rest < count list
  pub is : place ≡ sum_below count list + rest

pub split : (count : ℕ → ℕ) (n place : ℕ) → place < sum_below count n → IsSplit count n place
split count zero place below = absurd (omega arith)
split count (suc n) place below = elim (cases_lt place (sum_below count n)) [
  | inl before ↦
      let s = split count n place before in
      record { list = s.list; rest = s.rest; known = omega (arith, s.known); within = s.within; is = s.is }
  | inr after ↦ record { list = n; rest = place - sum_below count n; known = omega arith; within = omega arith; is = omega arith }
]

-- ---- sums by parts

pub sum_parts : (h : ℕ → ℤ) (count : ℕ → ℕ) (n : ℕ) → sum_below_ℤ h (sum_below count n) ≡ sum_below_ℤ (λ i. sum_below_ℤ (λ k. h (sum_below count i + k)) (count i)) n
sum_parts h count zero = refl
sum_parts h count (suc n) = sum_below_ℤ-stretches h (sum_below count n) (count n) ∙ ap (λ z. z +ℤ sum_below_ℤ (λ k. h (sum_below count n + k)) (count n)) (sum_parts h count n)

-- ---- where entries stand in lists one behind another
pub in_map : {X Y : Type 0} (f : X → Y) (xs : List X) (d : X) (k : ℕ) → k < length xs → StandsAt (map f xs) k (f (get_or xs k d))
in_map f xs d k below = record { within = omega (arith, below, length-map xs f); there = λ e. get_or-map f xs k d e below }

pub in_list_below : {X : Type 0} (f : ℕ → X) (n k : ℕ) → k < n → StandsAt (list_below f n) k (f k)
in_list_below f n k below = record { within = omega (arith, below, length-list_below f n); there = λ d. get_or-list_below f n k d below }

pub in_front : {X : Type 0} (xs ys : List X) (x : X) (k : ℕ) → StandsAt xs k x → StandsAt (xs ++ ys) k x
in_front xs ys x k stands = record {
  within = omega (arith, stands.within, length-append xs ys);
  there = λ d. get_or_append_left xs ys d k stands.within ∙ stands.there d;
}

pub in_back : {X : Type 0} (xs ys : List X) (x : X) (n k place : ℕ) → place ≡ n + k → length xs ≡ n → StandsAt ys k x → StandsAt (xs ++ ys) place x
in_back xs ys x n k place is long stands = record {
  within = omega (arith, is, long, stands.within, length-append xs ys);
  there = λ d. ap (λ p. get_or (xs ++ ys) p d) is ∙ at_right_of xs ys d n k long ∙ stands.there d;
}

-- .. in four lists one behind another
module _ {X : Type 0} (xs ys zs ws : List X) where
  pub in_second : (x : X) (n k place : ℕ) → place ≡ n + k → length xs ≡ n → StandsAt ys k x → StandsAt (xs ++ ys ++ zs ++ ws) place x
  in_second x n k place is long stands = in_front (xs ++ ys ++ zs) ws x place (in_front (xs ++ ys) zs x place (in_back xs ys x n k place is long stands))

  pub in_third : (x : X) (n m k place : ℕ) → place ≡ n + m + k → length xs ≡ n → length ys ≡ m → StandsAt zs k x → StandsAt (xs ++ ys ++ zs ++ ws) place x
  in_third x n m k place is long wide stands = in_front (xs ++ ys ++ zs) ws x place (in_back (xs ++ ys) zs x (n + m) k place is (omega (arith, long, wide, length-append xs ys)) stands)

  pub in_fourth : (x : X) (n m l k place : ℕ) → place ≡ n + m + l + k → length xs ≡ n → length ys ≡ m → length zs ≡ l → StandsAt ws k x → StandsAt (xs ++ ys ++ zs ++ ws) place x
  in_fourth x n m l k place is long wide deep stands = in_back (xs ++ ys ++ zs) ws x (n + m + l) k place is (omega (arith, long, wide, deep, length-append (xs ++ ys) zs, length-append xs ys)) stands
