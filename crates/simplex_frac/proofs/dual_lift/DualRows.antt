-- Dual values that are not outgrown are a row of fractions.
use Rattle.std.proofs.Common.{◌≡◌, ℕ, ◌+◌, ◌-◌, ◌<◌, ◌||◌, List, get_or, None, ℤ, pos, ◌<ℤ◌, refl, sym, subst, inl, inr, arith}
use Rattle.std.proofs.lemmas.Bool.{cases_lt, or_parts}
use Rattle.std.proofs.lemmas.List.{get_or_past}
use Rattle.sums.specs.Places.{list_below}
use Rattle.sums.proofs.Places.{get_or-list_below, length-list_below, nothing_at}
use Rattle.frac_row.specs.Outgrown.{IsWithin, is_outgrown}
use Rattle.frac_row.specs.Row.{IsRow, number_of, width_of}
use Rattle.frac_row.specs.declared.row.FracRow.{FracRow}
use Rattle.frac_row.proofs.Combinations.{within_from}
use Rattle.row_store.specs.Table.{IsTable, cost_row, height_of, phase_row}
use Rattle.simplex_frac.specs.dual_lift.Duals.{best_scale, best_value, cost_den, cost_value, phase_den, phase_value}
use Rattle.simplex_frac.specs.dual_lift.Readings.{IsReadingOf, duals_by, duals_excess, scale_by, scale_excess_by, value_by, value_excess_by}
use Rattle.simplex_frac.specs.dual_lift.TooLarge.{best_value_outgrown, phases_outgrown}
use Rattle.simplex_frac.specs.declared.dual_lift.reading.Reading.{Reading}
use Rattle.simplex_frac.specs.declared.dual_lift.reading.Reading.TheVariants.{BothRows, PhaseRow}
use Rattle.simplex_frac.proofs.dual_lift.BestDuals.{scale_some}
use Rattle.simplex_frac.proofs.dual_lift.Excesses.{first_none, not_excess, second_none}

phase_above : (table : List FracRow) → IsTable table → pos 0 <ℤ phase_den table
phase_above table is = (is.rows (phase_row table) (omega (arith, is.tall))).positive

cost_above : (table : List FracRow) → IsTable table → pos 0 <ℤ cost_den table
cost_above table is = (is.rows (cost_row table) (omega (arith, is.tall))).positive

-- numbers of a list, and 0 behind them
list_within : (f : ℕ → ℤ) (n : ℕ) → ((k : ℕ) → k < n → IsWithin (f k)) → (k : ℕ) → IsWithin (get_or (list_below f n) k (pos 0))
list_within f n each k = elim (cases_lt k n) [
  | inl below ↦ subst IsWithin (sym (get_or-list_below f n k (pos 0) below)) (each k below)
  | inr past ↦ subst IsWithin (sym (get_or_past (list_below f n) k (pos 0) (omega (arith, past, length-list_below f n)))) (omega arith)
]

-- one value, where nothing on the way to it is too large
value_within : (table : List FracRow) (reading : Reading) (line : ℕ) → IsTable table → IsReadingOf table reading → value_excess_by table reading line ≡ None → IsWithin (value_by table reading line)
value_within table (BothRows mixture) line is reads fits =
    within_from (best_value table line) (or_parts (is_outgrown (cost_value table line)) (is_outgrown (best_value table line)) (or_parts (phases_outgrown table line) (is_outgrown (cost_value table line) || is_outgrown (best_value table line)) (not_excess (best_value_outgrown table line) 3 line fits)).1).1
value_within table PhaseRow line is reads fits = within_from (phase_value table line) (not_excess (is_outgrown (phase_value table line)) 3 line fits)

-- the scale
scale_within : (table : List FracRow) (reading : Reading) → IsTable table → IsReadingOf table reading → scale_excess_by table reading ≡ None → IsWithin (scale_by table reading)
scale_within table (BothRows mixture) is reads fits = within_from (best_scale table) (not_excess (is_outgrown (best_scale table)) 2 0 fits)
scale_within table PhaseRow is reads fits = (is.rows (phase_row table) (omega (arith, is.tall))).den_within

pub scale_above : (table : List FracRow) (reading : Reading) → IsTable table → IsReadingOf table reading → pos 0 <ℤ scale_by table reading
scale_above table (BothRows mixture) is reads = scale_some table (phase_above table is) (cost_above table is)
scale_above table PhaseRow is reads = phase_above table is

pub duals_are_row : (table : List FracRow) (reading : Reading) (first : ℕ) → IsTable table → IsReadingOf table reading → duals_excess table reading first ≡ None → IsRow (duals_by table reading first)
unfolding duals_by duals_excess
duals_are_row table reading first is reads fits = record {
  within = list_within (λ k. value_by table reading (first + k)) (height_of table - first) (λ k below.
      value_within table reading (first + k) is reads (nothing_at (λ j. value_excess_by table reading (first + j)) (height_of table - first) k (second_none (scale_excess_by table reading) _ fits) below));
  den_within = scale_within table reading is reads (first_none (scale_excess_by table reading) _ fits);
  positive = scale_above table reading is reads;
}

-- as many as there are lines from the first on, so fewer than there are rows
pub duals_wide : (table : List FracRow) (reading : Reading) (first : ℕ) → width_of (duals_by table reading first) ≡ height_of table - first
unfolding duals_by
duals_wide table reading first = length-list_below (λ k. value_by table reading (first + k)) (height_of table - first)

-- by their numbers
pub dual_there : (table : List FracRow) (reading : Reading) (first k : ℕ) → k < height_of table - first → number_of (duals_by table reading first) k ≡ value_by table reading (first + k)
unfolding duals_by
dual_there table reading first k below = get_or-list_below (λ j. value_by table reading (first + j)) (height_of table - first) k (pos 0) below

pub duals_den : (table : List FracRow) (reading : Reading) (first : ℕ) → (duals_by table reading first).den ≡ scale_by table reading
unfolding duals_by
duals_den table reading first = refl
