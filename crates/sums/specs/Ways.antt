-- How many ways there are to choose.
use Rattle.std.specs.Prelude.{ℕ, zero, suc, ◌+◌}

-- k numbers of n: without the last one, or with it
unfoldable pub ways_to_choose : ℕ → ℕ → ℕ
ways_to_choose n zero = 1
ways_to_choose zero (suc k) = 0
ways_to_choose (suc n) (suc k) = ways_to_choose n k + ways_to_choose n (suc k)
