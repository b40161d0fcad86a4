-- The words that an iterator gives, taken one by one.
use Rattle.std.proofs.Common.{◌≡◌, ℕ, ◌+◌, List, ◌++◌, length}

-- what was taken, what is left, and how many there are left, of all and of their number
pub record Taken {X : Type 0} (words yielded rest all : List X) (left n : ℕ) : Type 0 where
  pub kept : words ≡ yielded
  pub whole : yielded ++ rest ≡ all
  pub count : length yielded + left ≡ n
