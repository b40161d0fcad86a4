-- Keys that are numbered from 0 in the order in which they came, as the entries of a map from keys to numbers.
use Rattle.std.specs.Prelude.{◌≡◌, ◌==◌, ℕ, List, [], ◌∷◌, length, nat_lt, if◌then◌else◌, bytes_eq, Option, Some, None}
use Rattle.std.specs.Option.{is_some, unwrap_or}
use Rattle.sums.specs.Places.{list_below}

-- the number of the key that is this list
abbrev pub number_of_key : {K : Type 0} → (K → List ℕ) → List (K × ℕ) → List ℕ → Option ℕ
number_of_key list_of [] list = None
number_of_key list_of (entry ∷ entries) list = if bytes_eq list (list_of entry.0) then Some entry.1 else number_of_key list_of entries list

-- the key with this number, as a list
abbrev pub key_at : {K : Type 0} → (K → List ℕ) → List (K × ℕ) → ℕ → Option (List ℕ)
key_at list_of [] n = None
key_at list_of (entry ∷ entries) n = if n == entry.1 then Some (list_of entry.0) else key_at list_of entries n

-- the keys by their numbers, each as a list
abbrev pub by_number : {K : Type 0} → (K → List ℕ) → List (K × ℕ) → List (List ℕ)
by_number list_of entries = list_below (λ n. unwrap_or (key_at list_of entries n) []) (length entries)

-- each number below the count is the number of one key
pub record AreNumbered {K : Type 0} (list_of : K → List ℕ) (entries : List (K × ℕ)) : Type 0 where
  pub below_count : (n : ℕ) → is_some (key_at list_of entries n) ≡ nat_lt n (length entries)
  pub numbered : (n : ℕ) (list : List ℕ) → key_at list_of entries n ≡ Some list → number_of_key list_of entries list ≡ Some n
  pub kept : (n : ℕ) (list : List ℕ) → number_of_key list_of entries list ≡ Some n → key_at list_of entries n ≡ Some list
