-- The weights of pairs at a basic point, by the numbers of columns.
use Rattle.std.specs.Prelude.{◌≡◌, ℕ, ◌≤◌, ◌==◌, if◌then◌else◌, List, [], ◌∷◌, length, slice_index_or, ℤ, pos, unsigned_abs}
use Rattle.frac_row.specs.declared.row.FracRow.{FracRow}
use Rattle.fleet_model.specs.Schedule.{leg_on}
use Rattle.fleet_model.specs.declared.parts.Pair.{Pair}
use Rattle.row_store.specs.Table.{height_of}
use Rattle.simplex_frac.specs.dual_lift.Parts.{AreParts, part_below}
use Rattle.simplex_frac.specs.dual_lift.Scales.{scale_below}
use Rattle.lp_rows.specs.Layout.{concat_below}
use Rattle.dual_bound.specs.Prices.{max_scale}
use Rattle.dual_bound.specs.declared.mixed.Mixed.{Mixed}
use Rattle.dual_bound.specs.declared.mixed.Weight.{Weight}

-- the weight of a column's pair, where it is not 0
abbrev pub weight_where : Pair → ℤ → List Weight
weight_where p weight = if unsigned_abs weight == 0 then [] else record { leg = p.leg; choice = p.choice; weight = weight } ∷ []

abbrev pub weights_at : List Pair → List ℤ → ℕ → List Weight
weights_at pairs parts column = weight_where (slice_index_or pairs column (leg_on 0 0)) (slice_index_or parts column (pos 0))

-- a fractional assignment of the pairs of the first columns, by the least scale of their lines
pub record IsBasicMixed (table : List FracRow) (basis : List ℕ) (pairs : List Pair) (mixed : Mixed) : Type 0 where
  pub scale : mixed.scale ≡ pos (scale_below table basis (length pairs) (height_of table))
  pub within : scale_below table basis (length pairs) (height_of table) ≤ max_scale
  pub parts : List ℤ
  pub are : AreParts (part_below table basis (scale_below table basis (length pairs) (height_of table)) (height_of table)) (length pairs) parts
  pub weights : mixed.weights ≡ concat_below (weights_at pairs parts) (length pairs)
