-- Ratios of whole numbers.
use Rattle.std.specs.Prelude.{ℤ, pos, ◌-ℤ◌, ◌*ℤ◌, ◌≤ℤ◌, ◌<ℤ◌}
use Rattle.std.specs.declared.cmp.Ordering.{Ordering}
use Rattle.std.specs.Ordering.{int_cmp}

-- q is n / d rounded towards the greater number
pub record IsCeiling (n d q : ℤ) : Type 0 where
  pub enough : n ≤ℤ (q *ℤ d)
  pub least : ((q -ℤ pos 1) *ℤ d) <ℤ n

-- how a / b and c / d compare, for b and d above 0
abbrev pub ratio_cmp : ℤ → ℤ → ℤ → ℤ → Ordering
ratio_cmp a b c d = int_cmp (a *ℤ d) (c *ℤ b)
