-- Lists and first places over the numbers below a bound.
use Rattle.std.specs.Prelude.{ℕ, zero, suc, ◌≡◌, ◌<◌, ◌≤◌, List, map, length, slice_index_or, Option, Some, None}
use Rattle.std.specs.List.{range_with_len}

-- f 0, f 1, .. up to and without f n
abbrev pub list_below : {X : Type 0} → (ℕ → X) → ℕ → List X
list_below f n = map f (range_with_len 0 n)

-- the first choice where there is one, else the second
abbrev pub or_else : {X : Type 0} → Option X → Option X → Option X
or_else (Some x) other = Some x
or_else None other = other

-- what f gives at the first number below n at which it gives something
abbrev pub first_below : {X : Type 0} → (ℕ → Option X) → ℕ → Option X
first_below f zero = None
first_below f (suc n) = or_else (first_below f n) (f n)

-- a list that has f's values below n, and otherwise those of the old list
pub record IsFilledBelow {X : Type 0} (d : X) (f : ℕ → X) (old new : List X) (n : ℕ) : Type 0 where
  pub same_length : length new ≡ length old
  pub filled : (k : ℕ) → k < n → slice_index_or new k d ≡ f k
  pub kept : (k : ℕ) → n ≤ k → slice_index_or new k d ≡ slice_index_or old k d
