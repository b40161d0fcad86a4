-- Which arcs stay: those without a moment.
use Rattle.std.specs.Prelude.{◌≡◌, ℕ, Bool, List, filter, length, slice_index_or, Option, None, is_none}
use Rattle.sums.specs.Places.{list_below}

-- of the first numbers those that pass a test, rising
unfoldable pub passing_below : (ℕ → Bool) → ℕ → List ℕ
passing_below passes n = filter passes (list_below (λ number. number) n)

-- the arc of a number stays
abbrev pub stays_at : List (Option ℕ) → ℕ → Bool
stays_at moments number = is_none (slice_index_or moments number None)

-- one moment for so many nodes, and the numbers of those whose arcs stay
pub record AreStaying (nodes : ℕ) (moments : List (Option ℕ)) (arcs : List ℕ) : Type 0 where
  pub all : length moments ≡ nodes
  pub staying : arcs ≡ passing_below (stays_at moments) nodes
