-- Bland's rule: the entering column and the leaving row.
use Rattle.std.specs.Prelude.{ℕ, ℤ, zero, suc, pos, Bool, true, false, ◌==◌, ◌&&◌, ◌||◌, nat_lt, int_lt, List, slice_index, unsigned_abs, Option, Some, None, option_map, if◌then◌else◌}
use Rattle.std.specs.declared.cmp.Ordering.{Ordering}
use Rattle.std.specs.declared.cmp.Ordering.TheVariants.{Less, Equal, Greater}
use Rattle.sums.specs.Places.{first_below}
use Rattle.frac_row.specs.declared.row.FracRow.{FracRow}
use Rattle.frac_row.specs.Ratio.{ratio_cmp}
use Rattle.row_store.specs.declared.choice.Candidate.{Candidate}
use Rattle.row_store.specs.Table.{number_at, phase_row, cost_row, height_of, right_side}

abbrev pub is_negative : ℤ → Bool
is_negative z = int_lt z (pos 0)

abbrev pub is_positive : ℤ → Bool
is_positive z = int_lt (pos 0) z

-- the pair of phase and cost is negative, the phase compared first
unfoldable pub improves : ℤ → ℤ → Bool
improves phase cost = is_negative phase || ((unsigned_abs phase == 0) && is_negative cost)

abbrev pub is_improving : List FracRow → ℕ → Bool
is_improving table column = improves (number_at table (phase_row table) column) (number_at table (cost_row table) column)

-- the least improving column of the first ones
unfoldable pub entering : List FracRow → ℕ → Option ℕ
entering table columns = first_below (λ column. if is_improving table column then Some column else None) columns

-- what decides whether a line leaves
abbrev pub candidate_at : List FracRow → List ℕ → ℕ → ℕ → Candidate
candidate_at table basis column row = record {
  row = row;
  basic = slice_index basis row;
  entry = number_at table row column;
  right_side = right_side table row;
}

-- a lesser ratio of right side to entry, or at a tie a lesser basic column
abbrev pub is_first : Ordering → ℕ → ℕ → Bool
is_first Less basic other = true
is_first Equal basic other = nat_lt basic other
is_first Greater basic other = false

unfoldable pub goes_first : Candidate → Candidate → Bool
goes_first one other =
    is_first (ratio_cmp one.right_side one.entry other.right_side other.entry) one.basic other.basic

-- a line with a positive entry takes the place of the best so far where it goes first
unfoldable pub better : Option Candidate → Candidate → Option Candidate
better None next = if is_positive next.entry then Some next else None
better (Some best) next = if is_positive next.entry && goes_first next best then Some next else Some best

-- the best of the lines below a bound
abbrev pub best_below : List FracRow → List ℕ → ℕ → ℕ → Option Candidate
best_below table basis column zero = None
best_below table basis column (suc row) = better (best_below table basis column row) (candidate_at table basis column row)

-- of the lines with a positive entry in the column the one that goes first
unfoldable pub leaving : List FracRow → List ℕ → ℕ → Option ℕ
leaving table basis column = option_map (λ best. best.row) (best_below table basis column (height_of table))
