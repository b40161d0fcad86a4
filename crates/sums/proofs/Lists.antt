-- Lists by number, lists of zeros, and what they begin with.
use Rattle.std.proofs.Common.{◌≡◌, ℕ, zero, suc, List, [], ◌∷◌, map, replicate, slice_index, refl}
use Rattle.std.specs.List.{range_with_len}
use Rattle.sums.specs.Places.{list_below}

pub map-list_below : {X Y : Type 0} (f : X → Y) (g : ℕ → X) (n : ℕ) → map f (list_below g n) ≡ list_below (λ k. f (g k)) n
map-list_below f g n = map-map (range_with_len 0 n)
  where
    map-map : (ks : List ℕ) → map f (map g ks) ≡ map (λ k. f (g k)) ks
    map-map [] = refl
    map-map (k ∷ ks) = rw (map-map ks) refl

-- a list of zeros has 0 at each place, and past its end
pub zero_at : (n k : ℕ) → slice_index (replicate n 0) k ≡ 0
zero_at zero k = refl
zero_at (suc n) zero = refl
zero_at (suc n) (suc k) = zero_at n k

-- lists with other numbers in front are others
pub unlike : {X : Type 0} (x y : ℕ) (xs ys : List ℕ) → (x ≡ y → ⊥) → x ∷ xs ≡ y ∷ ys → X
unlike x y xs ys differ same = absurd (let first : x ≡ y = cc in differ first)

pub tail_is : (x y : ℕ) (xs ys : List ℕ) → x ∷ xs ≡ y ∷ ys → xs ≡ ys
tail_is x y xs ys same = cc
