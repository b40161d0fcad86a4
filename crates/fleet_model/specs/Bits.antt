-- Rows of kept choices as bits of numbers.
use Rattle.std.specs.Prelude.{◌≡◌, ℕ, zero, suc, ◌+◌, ◌-◌, ◌*◌, ◌/◌, ◌%◌, ◌<◌, ◌≤◌, ◌==◌, Bool, false, if◌then◌else◌, List, [], ◌∷◌, ◌++◌, length, slice_index_or}

-- so many bits of a number, the least last
abbrev pub bits_in : ℕ → ℕ → List Bool
bits_in zero number = []
bits_in (suc n) number = bits_in n (number / 2) ++ (number % 2 == 1) ∷ []

-- the number whose bits are so many entries of a row, from one on
abbrev pub number_of_bits : List Bool → ℕ → ℕ → ℕ
number_of_bits row first zero = 0
number_of_bits row first (suc n) = 2 * number_of_bits row first n + (if slice_index_or row (first + n) false then 1 else 0)

-- a row in which these entries stand from one on, and else what stood there
pub record IsWritten (old new : List Bool) (first count : ℕ) (entries : List Bool) : Type 0 where
  pub same_length : length new ≡ length old
  pub there : (k : ℕ) → k < count → slice_index_or new (first + k) false ≡ slice_index_or entries k false
  pub before : (k : ℕ) → k < first → slice_index_or new k false ≡ slice_index_or old k false
  pub behind : (k : ℕ) → first + count ≤ k → slice_index_or new k false ≡ slice_index_or old k false
