-- Sums over the entries of lists.
use Rattle.std.proofs.Common.{◌≡◌, ℕ, zero, suc, ◌+◌, ◌<◌, Bool, true, false, cond, if◌then◌else◌, List, [], ◌∷◌, ◌++◌, filter, length, get_or, map, ℤ, pos, ◌+ℤ◌, ◌*ℤ◌, refl, sym, ◌∙◌, ap, append_assoc, arith}
use Rattle.std.proofs.lemmas.Int.{ints}
use lib.IntN.{zero-*ℤ, +ℤ_idl}
use Rattle.sums.specs.Below.{sum_below_ℤ, count_below}
use Rattle.sums.proofs.Integers.{one-*ℤ}
use Rattle.sums.proofs.Places.{get_or-list_below, length-list_below, list_below-push}
use Rattle.sums.proofs.WholeSums.{sum_below_ℤ-same, sum_below_ℤ-pos}
use Rattle.sums.proofs.WholeSwaps.{sum_below_ℤ-zero, where_true}
use Rattle.lp_rows.specs.Entries.{one_if}
use Rattle.sums.specs.Places.{list_below}
use Rattle.lp_rows.specs.Layout.{concat_below}

-- the values of a list's entries, added up
abbrev pub sum_list : {X : Type 0} → (X → ℤ) → List X → ℤ
sum_list h [] = pos 0
sum_list h (x ∷ xs) = h x +ℤ sum_list h xs

-- the first term apart
from_first : (g : ℕ → ℤ) (n : ℕ) → sum_below_ℤ g (suc n) ≡ g 0 +ℤ sum_below_ℤ (λ k. g (suc k)) n
from_first g zero = omega (arith, ints)
from_first g (suc n) = omega (arith, ints, from_first g n)

-- by places
pub by_places : {X : Type 0} (h : X → ℤ) (xs : List X) (d : X) → sum_below_ℤ (λ c. h (get_or xs c d)) (length xs) ≡ sum_list h xs
by_places h [] d = refl
by_places h (x ∷ xs) d = from_first (λ c. h (get_or (x ∷ xs) c d)) (length xs) ∙ ap (λ z. h x +ℤ z) (by_places h xs d)

pub of_append : {X : Type 0} (h : X → ℤ) (xs ys : List X) → sum_list h (xs ++ ys) ≡ sum_list h xs +ℤ sum_list h ys
of_append h [] ys = sym (+ℤ_idl (sum_list h ys))
of_append h (x ∷ xs) ys = ap (λ z. h x +ℤ z) (of_append h xs ys) ∙ omega (arith, ints)

pub of_map : {X Y : Type 0} (h : Y → ℤ) (f : X → Y) (xs : List X) → sum_list h (map f xs) ≡ sum_list (λ x. h (f x)) xs
of_map h f [] = refl
of_map h f (x ∷ xs) = ap (λ z. h (f x) +ℤ z) (of_map h f xs)

pub of_concat : {X : Type 0} (h : X → ℤ) (g : ℕ → List X) (n : ℕ) → sum_list h (concat_below g n) ≡ sum_below_ℤ (λ i. sum_list h (g i)) n
of_concat h g zero = refl
of_concat h g (suc n) = of_append h (concat_below g n) (g n) ∙ ap (λ z. z +ℤ sum_list h (g n)) (of_concat h g n)

pub of_list : {X : Type 0} (h : X → ℤ) (f : ℕ → X) (n : ℕ) → sum_list h (list_below f n) ≡ sum_below_ℤ (λ i. h (f i)) n
of_list h f n =
    sym (by_places h (list_below f n) (f 0)) ∙ ap (sum_below_ℤ (λ k. h (get_or (list_below f n) k (f 0)))) (length-list_below f n)
    ∙ sum_below_ℤ-same (λ k. h (get_or (list_below f n) k (f 0))) (λ k. h (f k)) n (λ k below. ap h (get_or-list_below f n k (f 0) below))

-- one entry more behind a list
pub one_behind : {X : Type 0} (old now more : List X) (f : ℕ → X) (n : ℕ) (x : X) → now ≡ old ++ list_below f n → more ≡ now ++ x ∷ [] → x ≡ f n → more ≡ old ++ list_below f (n + 1)
one_behind old now more f n x is pushed same =
    pushed ∙ ap (λ xs. xs ++ x ∷ []) is ∙ append_assoc old (list_below f n) (x ∷ []) ∙ ap (λ xs. old ++ xs) (list_below-push f n (list_below f n) x refl same)

pub of_one : {X : Type 0} (h : X → ℤ) (b : Bool) (x : X) → sum_list h (if b then x ∷ [] else []) ≡ where_true b (h x)
of_one h true x = omega (arith, ints)
of_one h false x = refl

-- of the entries that pass a test
pub of_filter : {X : Type 0} (h : X → ℤ) (p : X → Bool) (xs : List X) → sum_list h (filter p xs) ≡ sum_list (λ x. where_true (p x) (h x)) xs
of_filter h p [] = refl
of_filter {X} h p (x ∷ xs) = picked (p x) (filter p xs) ∙ ap (λ z. where_true (p x) (h x) +ℤ z) (of_filter h p xs)
  where
    picked : (b : Bool) (ys : List X) → sum_list h (cond b (x ∷ ys) ys) ≡ where_true b (h x) +ℤ sum_list h ys
    picked true ys = refl
    picked false ys = sym (+ℤ_idl (sum_list h ys))

-- a test that stands over a whole sum
pub test_out : (b : Bool) (g : ℕ → ℤ) (n : ℕ) → sum_below_ℤ (λ k. where_true b (g k)) n ≡ where_true b (sum_below_ℤ g n)
test_out true g n = refl
test_out false g n = sum_below_ℤ-zero n

pub all_zero : (g : ℕ → ℤ) (n : ℕ) → ((k : ℕ) → k < n → g k ≡ pos 0) → sum_below_ℤ g n ≡ pos 0
all_zero g n none = sum_below_ℤ-same g (λ k. pos 0) n none ∙ sum_below_ℤ-zero n

pub one_if-times : (b : Bool) (z : ℤ) → one_if b *ℤ z ≡ where_true b z
one_if-times true z = one-*ℤ z
one_if-times false z = zero-*ℤ z

pub of_tests : (p : ℕ → Bool) (n : ℕ) → sum_below_ℤ (λ k. one_if (p k)) n ≡ pos (count_below p n)
of_tests p n = sum_below_ℤ-same (λ k. one_if (p k)) (λ k. pos (if p k then 1 else 0)) n (λ k below. as_count (p k)) ∙ sum_below_ℤ-pos (λ k. if p k then 1 else 0) n
  where
    as_count : (b : Bool) → one_if b ≡ pos (if b then 1 else 0)
    as_count true = refl
    as_count false = refl
