-- Tails and starts at each place: which place lacks tails, at which they are late, and in which order they come.
use Rattle.std.specs.Prelude.{ℕ, zero, suc, ◌+◌, ◌*◌, ◌^◌, ◌<◌, ◌==◌, if◌then◌else◌, List, [], ◌∷◌, ◌++◌, length, slice_index}
use Rattle.sums.specs.Below.{count_below}
use Rattle.sums.specs.Places.{list_below}
use Rattle.tail_dates.specs.Late.{IsFirstLate, IsNeverLate}

-- how many of some places are this one
abbrev pub count_at : List ℕ → ℕ → ℕ
count_at places p = count_below (λ k. slice_index places k == p) (length places)

-- more starts are at a place than tails
abbrev pub IsLacking : List ℕ → List ℕ → ℕ → Type 0
IsLacking told places p = count_at told p < count_at places p

-- the first such place, where there is one among so many
pub record IsFirstLacking (told places : List ℕ) (p : ℕ) : Type 0 where
  pub lacks : IsLacking told places p
  pub first : (q : ℕ) → q < p → ¬ (IsLacking told places q)

pub record NoneLacks (told places : List ℕ) (all : ℕ) : Type 0 where
  pub each : (p : ℕ) → p < all → ¬ (IsLacking told places p)

-- of numbers, each of which belongs to a place, those of one place, in their order: of the first, and of all
abbrev pub those_below : List ℕ → List ℕ → ℕ → ℕ → List ℕ
those_below places numbers p zero = []
those_below places numbers p (suc k) = those_below places numbers p k ++ (if slice_index places k == p then slice_index numbers k ∷ [] else [])

abbrev pub those_at : List ℕ → List ℕ → ℕ → List ℕ
those_at places numbers p = those_below places numbers p (length numbers)

-- Tails with such places and nights left are late within so many nights at a place, by starts with such places and reaches,
-- and at no place before it: the first such place, and the least such number there.
pub record IsFirstLateThere (told lefts places reaches : List ℕ) (p within : ℕ) : Type 0 where
  pub late : IsFirstLate (those_at told lefts p) (those_at places reaches p) within
  pub first : (q : ℕ) → q < p → IsNeverLate (those_at told lefts q) (those_at places reaches q)

pub record NoneIsLate (told lefts places reaches : List ℕ) (all : ℕ) : Type 0 where
  pub each : (p : ℕ) → p < all → IsNeverLate (those_at told lefts p) (those_at places reaches p)

-- One number for a place and a number of nights, which is less than a place's worth: by it the first place comes first, and at a
-- place the fewest nights.
abbrev pub key : ℕ → ℕ → ℕ
key p nights = p * 2 ^ 40 + nights

abbrev pub keys : List ℕ → List ℕ → List ℕ
keys places numbers = list_below (λ k. key (slice_index places k) (slice_index numbers k)) (length numbers)
