-- The basic point of the last table of a run at a cheapest point, and its parts over the least scale.
use Rattle.std.proofs.Common.{◌≡◌, ℕ, ◌*◌, ◌<◌, ◌≤◌, List, get_or, pos, ◌*ℤ◌, ◌≤ℤ◌, ◌∙◌, ap, arith}
use Rattle.frac_row.specs.declared.row.FracRow.{FracRow}
use Rattle.fleet_model.specs.declared.tables.Tables.{Tables}
use Rattle.fleet_model.specs.Kept.{Domains, pairs_kept}
use Rattle.row_store.specs.Table.{height_of, right_side, row_at}
use Rattle.row_store.specs.declared.problem.Rows.{Rows}
use Rattle.simplex_frac.specs.BasicPoints.{IsBasicPoint, MeetsAtCost}
use Rattle.lp_rows.specs.Layout.{Starts, pair_at_column}
use Rattle.lp_rows.specs.Points.{AreLinesOf}
use Rattle.lp_rows.proofs.PairParts.{is_pair, part_at}
use Rattle.simplex_frac.specs.dual_lift.LastTables.{HasBasicPoint, IsReachedTable}
use Rattle.simplex_frac.specs.dual_lift.Parts.{HaveParts, part_below}
use Rattle.simplex_frac.specs.dual_lift.Scales.{scale_below}
use Rattle.simplex_frac.proofs.dual_lift.BasicPoints.{den_divides, dens_below, dens_positive, no_point, part_there, point_below, point_parts, point_there, raw_is, raw_of}
use Rattle.simplex_frac.proofs.dual_lift.LeastScales.{scale_has, scale_positive, signed_part}
use Rattle.dual_bound.specs.Prices.{max_scale}
use Rattle.price_lift.proofs.LastTables.{have_dens, height_is, own_columns}
use Rattle.price_lift.proofs.PointPlans.{plan, share}
use Rattle.price_lift.proofs.ScaledPlans.{no_more_parts}

module _ (t : Tables) (keeps : Domains) (rows : Rows) (lines : AreLinesOf t keeps rows) (table : List FracRow) (basis : List ℕ) (last : IsReachedTable rows table basis) (at_point : HasBasicPoint rows table basis) where
  pub sides : (line : ℕ) → line < height_of table → pos 0 ≤ℤ right_side table line
  sides line below = at_point.sides line (omega (arith, below, height_is t keeps rows lines table basis last))

  abbrev net : Starts
  net = lines.starts

  -- ---- the basic point
  abbrev pub scale : ℕ
  scale = scale_below table basis (pairs_kept t keeps) (height_of table)

  abbrev pub dens : ℕ
  dens = dens_below table (height_of table)

  abbrev pub point : ℕ → ℕ
  point = point_below table basis scale dens (height_of table)

  pub some_dens : 0 < dens
  some_dens = dens_positive table (height_of table) (have_dens t keeps rows lines table basis last)

  pub scale_above : 0 < scale
  scale_above = scale_positive table basis (pairs_kept t keeps) (height_of table) (have_dens t keeps rows lines table basis last)

  is_point : IsBasicPoint rows table basis (dens * scale) point
  is_point = record {
    basic = λ line below real.
        let within : line < height_of table = omega (arith, below, height_is t keeps rows lines table basis last) in
        ap (λ n. pos n *ℤ (row_at table line).den) (point_there table basis scale dens (height_of table) line (own_columns t keeps rows lines table basis last) within)
        ∙ signed_part (raw_of table scale dens line) (dens * scale) (row_at table line).den (right_side table line) (raw_is table scale dens line (den_divides table (height_of table) line within))
        ((have_dens t keeps rows lines table basis last).each line within) (sides line within);
    others = λ column real other. no_point table basis scale dens (height_of table) column (λ line below. other line (omega (arith, below, height_is t keeps rows lines table basis last)));
  }

  pub meets : MeetsAtCost rows table (dens * scale) point
  meets = at_point.meets (dens * scale) point is_point

  -- ---- its parts, over the least scale
  abbrev pub parts : ℕ → ℕ
  parts = part_below table basis scale (height_of table)

  pub divides : (c : ℕ) → c < pairs_kept t keeps → point c ≡ dens * parts c
  divides c below =
      point_parts table basis (pairs_kept t keeps) scale dens (height_of table) (height_of table) c (have_dens t keeps rows lines table basis last)
      (λ line within real. scale_has table basis (pairs_kept t keeps) (height_of table) line within real) (λ line within. den_divides table (height_of table) line within) below (omega arith)

  pub have_parts : scale ≤ max_scale → HaveParts table basis (pairs_kept t keeps) scale
  have_parts within = record {
    some = sides;
    few = λ line below real.
        let planned = plan t keeps rows lines dens scale some_dens scale_above point parts meets.meets divides in
        let shared = share t keeps rows lines dens scale some_dens scale_above point parts meets.meets divides in
        let part = no_more_parts t keeps scale shared planned (pair_at_column t keeps (get_or basis line 0)) (is_pair t keeps net (get_or basis line 0) real) in
        omega (arith, within, part, part_at t keeps net parts (get_or basis line 0) real, part_there table basis scale (height_of table) line (own_columns t keeps rows lines table basis last) below);
  }
