-- The least scale that makes right sides of lines whole.
use Rattle.std.specs.Prelude.{ℕ, zero, suc, ◌*◌, ◌/◌, nat_lt, if◌then◌else◌, List, slice_index, unsigned_abs}
use Rattle.sums.specs.Divisors.{gcd}
use Rattle.frac_row.specs.declared.row.FracRow.{FracRow}
use Rattle.row_store.specs.Table.{right_side, row_at}

-- the least common multiple of two numbers above 0
unfoldable pub lcm : ℕ → ℕ → ℕ
lcm a b = (a / gcd a b) * b

-- the denominator of a line's right side, in lowest terms
unfoldable pub lowest_den : List FracRow → ℕ → ℕ
lowest_den table line =
    unsigned_abs (row_at table line).den / gcd (unsigned_abs (right_side table line)) (unsigned_abs (row_at table line).den)

-- the least scale that makes the right sides of the first lines whole, of those whose basic column is among the first so
-- many columns
abbrev pub scale_below : List FracRow → List ℕ → ℕ → ℕ → ℕ
scale_below table basis columns zero = 1
scale_below table basis columns (suc line) =
    if nat_lt (slice_index basis line) columns then lcm (scale_below table basis columns line) (lowest_den table line)
    else scale_below table basis columns line
