-- The weights of pairs at a table's basic point, over the least scale that makes them whole.
use Rattle.std.specs.Prelude.{◌≡◌, ℕ, ◌<◌, List, slice_index, pos, ◌*ℤ◌}
use Rattle.frac_row.specs.declared.row.FracRow.{FracRow}
use Rattle.fleet_model.specs.Kept.{Domains, pairs_kept}
use Rattle.fleet_model.specs.Schedule.{IsPair}
use Rattle.fleet_model.specs.declared.parts.Pair.{Pair}
use Rattle.fleet_model.specs.declared.tables.Tables.{Tables}
use Rattle.row_store.specs.Table.{height_of, right_side, row_at}
use Rattle.simplex_frac.specs.dual_lift.Scales.{scale_below}
use Rattle.lp_rows.specs.Layout.{pair_at_column}
use Rattle.dual_bound.specs.Mixed.{weight_in}
use Rattle.dual_bound.specs.declared.mixed.Mixed.{Mixed}

-- the pair is that of a line's basic column
pub record IsBasicIn (t : Tables) (keeps : Domains) (basis : List ℕ) (line : ℕ) (p : Pair) : Type 0 where
  pub of_pair : slice_index basis line < pairs_kept t keeps
  pub same : pair_at_column t keeps (slice_index basis line) ≡ p

-- a line's basic pair has its right side as weight, both over their scales; any other pair weighs nothing
pub record AreBasicWeights (t : Tables) (keeps : Domains) (table : List FracRow) (basis : List ℕ) (mixed : Mixed) : Type 0 where
  pub scale : mixed.scale ≡ pos (scale_below table basis (pairs_kept t keeps) (height_of table))
  pub basic : (line : ℕ) (p : Pair) → line < height_of table → IsBasicIn t keeps basis line p
      → (weight_in mixed p *ℤ (row_at table line).den) ≡ (right_side table line *ℤ mixed.scale)
  pub others : (p : Pair) → IsPair t p → ((line : ℕ) → line < height_of table → ¬ (IsBasicIn t keeps basis line p)) → weight_in mixed p ≡ pos 0
