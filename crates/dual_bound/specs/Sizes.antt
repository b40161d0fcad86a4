-- Sizes of numbers on the way to a worth.
use Rattle.std.specs.Prelude.{ℕ, ◌*◌, ℤ, pos, neg_ℤ, ◌≤ℤ◌}
use Rattle.dual_bound.specs.Prices.{max_price}

-- no more in size than so many of the greatest price
pub record IsUpTo (n : ℕ) (z : ℤ) : Type 0 where
  pub no_less : neg_ℤ (pos (n * max_price)) ≤ℤ z
  pub no_more : z ≤ℤ pos (n * max_price)
