-- What the rows of a reached table come to at a point.
use Rattle.std.proofs.Common.{◌≡◌, ℕ, ◌+◌, ◌-◌, ◌<◌, length, List, ℤ, pos, ◌+ℤ◌, ◌*ℤ◌, refl, sym, ◌∙◌, ap, subst, arith}
use Rattle.std.specs.Prelude.{◌↔◌}
use lib.IntN.{zero-*ℤ}
use Rattle.sums.proofs.Integers.{times_one}
use Rattle.sums.proofs.Sizes.{from_no_difference, no_difference}
use Rattle.frac_row.specs.declared.row.FracRow.{FracRow}
use Rattle.row_store.specs.declared.problem.Rows.{Rows}
use Rattle.row_store.specs.Table.{row_at, height_of, columns_of, phase_row, cost_row}
use Rattle.row_store.specs.Points.{surplus, MeetsLines}
use Rattle.row_store.specs.Problem.{entry, first_table}
use Rattle.row_store.proofs.FirstTables.{first_is_table, first_has_columns, length-first_table, row_at-first_table, columns_of-first_table}
use Rattle.simplex_frac.specs.StepLaws.{KeepsShape}
use Rattle.simplex_frac.specs.ReachedTables.{den_at, IsReachedBySteps, IsTableOf, StepsHaveTables}
use Rattle.simplex_frac.proofs.StepLaws.{steps_keep_shape, steps_keep_points, steps_keep_surplus}
use Rattle.simplex_frac.proofs.FirstPoints.{line_sum, cost_sum, rest_sum, MeetsFirst, surplus_line, surplus_phase, surplus_cost}

pub has_tables : StepsHaveTables
has_tables rows table basis h =
    let first : List FracRow = first_table rows in
    let keeps : KeepsShape first rows.columns (record { table = table; basis = basis }) =
    steps_keep_shape first rows.columns table basis (first_is_table rows h.problem) (first_has_columns rows first refl) h.reached in
    let tall : length table ≡ length rows.lines + 2 = keeps.height ∙ length-first_table rows in
    record {
      is_table = keeps.is_table;
      rows_in = tall;
      columns_in = wide (columns_of table) (length table) rows.columns (length rows.lines) tall keeps.shape;
      dens = λ row lt. (keeps.is_table.rows row (subst (λ n. row < n) (sym tall) lt)).positive;
      basis_in = keeps.basis ∙ lines (length first) (length rows.lines) (length-first_table rows);
    }
  where
    wide : (w t n m : ℕ) → t ≡ m + 2 → w ≡ n + (t - 2) + 1 → w ≡ n + m + 1
    wide w t n m e f = omega arith

    lines : (t m : ℕ) → t ≡ m + 2 → t - 2 ≡ m
    lines t m e = omega arith

less_two : (t m : ℕ) → t ≡ m + 2 → t - 2 ≡ m
less_two t m e = omega arith

-- ---- the shape by the numbers of lines and columns
pub phase_is : {rows : Rows} {table : List FracRow} {basis : List ℕ} → IsTableOf rows table basis → phase_row table ≡ length rows.lines
phase_is {rows} {table} h = less_two (length table) (length rows.lines) h.rows_in

pub cost_is : {rows : Rows} {table : List FracRow} {basis : List ℕ} → IsTableOf rows table basis → cost_row table ≡ length rows.lines + 1
cost_is {rows} {table} h = ap (λ n. n + 1) (less_two (length table) (length rows.lines) h.rows_in)

pub last_is : {rows : Rows} {table : List FracRow} {basis : List ℕ} → IsTableOf rows table basis → columns_of table - 1 ≡ rows.columns + length rows.lines
last_is {rows} {table} h = less_one (columns_of table) (rows.columns + length rows.lines) h.columns_in
  where
    less_one : (w k : ℕ) → w ≡ k + 1 → w - 1 ≡ k
    less_one w k e = omega arith

first_last : (rows : Rows) → columns_of (first_table rows) - 1 ≡ rows.columns + length rows.lines
first_last rows = less_one (columns_of (first_table rows)) (rows.columns + length rows.lines) (columns_of-first_table rows)
  where
    less_one : (w k : ℕ) → w ≡ k + 1 → w - 1 ≡ k
    less_one w k e = omega arith

pub first_height : (rows : Rows) → height_of (first_table rows) ≡ length rows.lines
first_height rows = less_two (length (first_table rows)) (length rows.lines) (length-first_table rows)

-- ---- points of the first table
meets_lines : (rows : Rows) (point : ℕ → ℤ) (scale : ℤ) → MeetsFirst rows point scale → MeetsLines (first_table rows) point scale
meets_lines rows point scale h line lt =
    let below : line < length rows.lines = subst (λ n. line < n) (first_height rows) lt in
    ap (λ k. surplus (row_at (first_table rows) line) k point scale) (first_last rows) ∙ surplus_line rows line point scale below
    ∙ no_difference _ _ (h.each line below)

meets_first : (rows : Rows) (point : ℕ → ℤ) (scale : ℤ) → MeetsLines (first_table rows) point scale → MeetsFirst rows point scale
meets_first rows point scale h = record { each = λ line lt. met line lt }
  where
    met : (line : ℕ) → line < length rows.lines → line_sum rows point line +ℤ point (rows.columns + line) ≡ entry rows line rows.columns *ℤ scale
    met line lt =
        from_no_difference (line_sum rows point line +ℤ point (rows.columns + line)) (entry rows line rows.columns *ℤ scale)
        (sym (surplus_line rows line point scale lt) ∙ ap (λ k. surplus (row_at (first_table rows) line) k point scale) (sym (first_last rows)) ∙ h line (subst (λ n. line < n) (sym (first_height rows)) lt))

-- ---- .. and of a reached table
-- a point of this table is one of the first
pub point_of_first : (rows : Rows) (table : List FracRow) (basis : List ℕ) (point : ℕ → ℤ) (scale : ℤ) → IsReachedBySteps rows table basis
    → ((line : ℕ) → line < length rows.lines → surplus (row_at table line) (rows.columns + length rows.lines) point scale ≡ pos 0) → MeetsFirst rows point scale
point_of_first rows table basis point scale h met =
    let first : List FracRow = first_table rows in
    let t : IsTableOf rows table basis = has_tables rows table basis h in
    let same : MeetsLines table point scale ↔ MeetsLines first point scale =
    steps_keep_points first rows.columns table basis point scale (first_is_table rows h.problem) (first_has_columns rows first refl) h.reached in
    meets_first rows point scale (same.0 (λ line lt. ap (λ k. surplus (row_at table line) k point scale) (last_is t) ∙ met line (subst (λ n. line < n) (phase_is t) lt)))

-- the surplus of each row is that of the first table, as many times as the denominator
pub kept : (rows : Rows) (table : List FracRow) (basis : List ℕ) (point : ℕ → ℤ) (scale : ℤ) (row : ℕ) → IsReachedBySteps rows table basis → MeetsFirst rows point scale → row < length rows.lines + 2
    → surplus (row_at table row) (rows.columns + length rows.lines) point scale ≡ surplus (row_at (first_table rows) row) (rows.columns + length rows.lines) point scale *ℤ den_at table row
kept rows table basis point scale row h met lt =
    let first : List FracRow = first_table rows in
    let one : (row_at first row).den ≡ pos 1 = ap (λ r. r.den) (row_at-first_table rows row lt) in
    let same : (surplus (row_at table row) (columns_of first - 1) point scale *ℤ (row_at first row).den) ≡ (surplus (row_at first row) (columns_of first - 1) point scale *ℤ den_at table row) =
    steps_keep_surplus first rows.columns table basis point scale row (first_is_table rows h.problem) (first_has_columns rows first refl) h.reached (meets_lines rows point scale met)
    (subst (λ n. row < n) (sym (length-first_table rows)) lt) in
    sym (times_one (surplus (row_at table row) (rows.columns + length rows.lines) point scale)) ∙ ap (λ x. surplus (row_at table row) (rows.columns + length rows.lines) point scale *ℤ x) (sym one)
    ∙ subst (λ k. (surplus (row_at table row) k point scale *ℤ (row_at first row).den) ≡ (surplus (row_at first row) k point scale *ℤ den_at table row)) (first_last rows) same

pub line_kept : (rows : Rows) (table : List FracRow) (basis : List ℕ) (point : ℕ → ℤ) (scale : ℤ) (row : ℕ) → IsReachedBySteps rows table basis → MeetsFirst rows point scale → row < length rows.lines
    → surplus (row_at table row) (rows.columns + length rows.lines) point scale ≡ pos 0
line_kept rows table basis point scale row h met lt =
    kept rows table basis point scale row h met (omega arith)
    ∙ ap (λ x. x *ℤ den_at table row) (ap (λ k. surplus (row_at (first_table rows) row) k point scale) (sym (first_last rows)) ∙ meets_lines rows point scale met row (subst (λ n. row < n) (sym (first_height rows)) lt))
    ∙ zero-*ℤ (den_at table row)

pub phase_kept : (rows : Rows) (table : List FracRow) (basis : List ℕ) (point : ℕ → ℤ) (scale : ℤ) → IsReachedBySteps rows table basis → MeetsFirst rows point scale
    → surplus (row_at table (phase_row table)) (rows.columns + length rows.lines) point scale ≡ rest_sum rows point *ℤ den_at table (phase_row table)
phase_kept rows table basis point scale h met =
    subst (λ row. surplus (row_at table row) (rows.columns + length rows.lines) point scale ≡ rest_sum rows point *ℤ den_at table row) (sym (phase_is (has_tables rows table basis h)))
    (kept rows table basis point scale (length rows.lines) h met (omega arith) ∙ ap (λ x. x *ℤ den_at table (length rows.lines)) (surplus_phase rows point scale met))

pub cost_kept : (rows : Rows) (table : List FracRow) (basis : List ℕ) (point : ℕ → ℤ) (scale : ℤ) → IsReachedBySteps rows table basis → MeetsFirst rows point scale
    → surplus (row_at table (cost_row table)) (rows.columns + length rows.lines) point scale ≡ cost_sum rows point *ℤ den_at table (cost_row table)
cost_kept rows table basis point scale h met =
    subst (λ row. surplus (row_at table row) (rows.columns + length rows.lines) point scale ≡ cost_sum rows point *ℤ den_at table row) (sym (cost_is (has_tables rows table basis h)))
    (kept rows table basis point scale (length rows.lines + 1) h met (omega arith) ∙ ap (λ x. x *ℤ den_at table (length rows.lines + 1)) (surplus_cost rows point scale h.problem))
