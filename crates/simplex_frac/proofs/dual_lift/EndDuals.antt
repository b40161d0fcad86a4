-- The dual values of each kind of end, over their scale: what they weigh in real columns and over the right sides.
use Rattle.std.proofs.Common.{◌≡◌, ℕ, ◌<◌, List, get_or, ℤ, pos, neg_ℤ, ◌*ℤ◌, ◌≤ℤ◌, sym, ◌∙◌, ap, subst, arith}
use lib.IntN.{*ℤ_comm, zero-*ℤ}
use Rattle.sums.proofs.Integers.{*ℤ_assoc, neg_ℤ-*ℤ, one-*ℤ}
use Rattle.frac_row.specs.declared.row.FracRow.{FracRow}
use Rattle.row_store.specs.Table.{cost_row, right_side}
use Rattle.row_store.specs.declared.problem.Rows.{Rows}
use Rattle.simplex_frac.specs.LastTables.{IsBestTable, IsNoPointTable}
use Rattle.simplex_frac.specs.ReachedTables.{weighed}
use Rattle.simplex_frac.specs.dual_lift.Duals.{best_scale, best_value, cost_den, phase_den, phase_part, phase_value}
use Rattle.simplex_frac.specs.dual_lift.LastTables.{AreDualValues, IsEndBy, IsReachedTable, WeighMore, WeighTheCost, counts_costs}
use Rattle.simplex_frac.specs.dual_lift.Mixture.{HasPhases}
use Rattle.simplex_frac.specs.dual_lift.Readings.{IsReadingOf, scale_by, value_by}
use Rattle.simplex_frac.specs.declared.dual_lift.reading.Reading.{Reading}
use Rattle.simplex_frac.specs.declared.dual_lift.reading.Reading.TheVariants.{BothRows, PhaseRow}
use Rattle.simplex_frac.proofs.dual_lift.BestDuals.{best_dual, best_sides, real_is, refusal_dual, refusal_sides}
use Rattle.simplex_frac.proofs.dual_lift.DualRows.{scale_above}

counted_once : (w s c : ℤ) → w ≤ℤ (s *ℤ c) → w ≤ℤ ((pos 1 *ℤ s) *ℤ c)
counted_once w s c le = subst (λ z. w ≤ℤ (z *ℤ c)) (sym (one-*ℤ s)) le

not_counted : (w s c : ℤ) → w ≤ℤ pos 0 → w ≤ℤ ((pos 0 *ℤ s) *ℤ c)
not_counted w s c le = subst (λ z. w ≤ℤ z) (sym (ap (λ z. z *ℤ c) (zero-*ℤ s) ∙ zero-*ℤ c)) le

module _ (rows : Rows) (table : List FracRow) (basis : List ℕ) (last : IsReachedTable rows table basis) where
  pub read_so : (reading : Reading) → IsEndBy rows table basis reading → IsReadingOf table reading
  read_so (BothRows mixture) ends = ends.1
  read_so PhaseRow ends = tt

  under : (reading : Reading) → IsEndBy rows table basis reading → (column : ℕ) → column < rows.columns
      → weighed rows (value_by table reading) column ≤ℤ ((pos (counts_costs reading) *ℤ scale_by table reading) *ℤ get_or rows.costs column (pos 0))
  under (BothRows mixture) ends column real =
      counted_once (weighed rows (best_value table) column) (best_scale table) (get_or rows.costs column (pos 0)) (best_dual rows table basis last.shape last.reads ends.0 column real)
  under PhaseRow ends column real =
      not_counted (weighed rows (phase_value table) column) (phase_den table) (get_or rows.costs column (pos 0)) (refusal_dual rows table basis last.shape last.reads ends column real)

  pub are_duals : (reading : Reading) → IsEndBy rows table basis reading → AreDualValues rows (counts_costs reading) (scale_by table reading) (value_by table reading)
  are_duals reading ends = record { some = scale_above table reading last.shape.is_table (read_so reading ends); under = under reading ends }

  -- ---- at a cheapest point
  pub best_has_phases : IsBestTable rows table → HasPhases table
  best_has_phases best = record { each = λ column below negative. best.none.above column (omega (arith, below, real_is rows table basis last.shape last.reads)) negative }

  pub best_weighs : IsBestTable rows table → WeighTheCost rows table (best_scale table) (best_value table)
  best_weighs best = record {
    sides = ap (λ z. z *ℤ cost_den table) (best_sides rows table basis last.shape last.reads best last.problem.costs) ∙ moved (phase_part table) (right_side table (cost_row table)) (cost_den table);
  }
    where
      moved : (p r c : ℤ) → neg_ℤ (p *ℤ r) *ℤ c ≡ neg_ℤ r *ℤ (p *ℤ c)
      moved p r c = neg_ℤ-*ℤ (p *ℤ r) c ∙ ap neg_ℤ (ap (λ z. z *ℤ c) (*ℤ_comm p r) ∙ *ℤ_assoc r p c) ∙ sym (neg_ℤ-*ℤ r (p *ℤ c))

  -- ---- where no point meets the lines
  pub phases_weigh : IsNoPointTable rows table → WeighMore rows (phase_value table)
  phases_weigh none = record { sides = refusal_sides rows table basis last.shape last.reads none }
