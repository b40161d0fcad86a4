-- The basic point of the best table meets the lines.
use Rattle.std.proofs.Common.{ap, ◌∙◌}
use Rattle.row_store.specs.Table.{number_at}
use Rattle.simplex_frac.proofs.BasicPoints.{meets_at_cost}
use Rattle.simplex_frac.proofs.ReachedPoints.{last_is}
use Rattle.simplex_frac.specs.LastTables.{BasicPointMeets}
use Rattle.simplex_frac.proofs.RunPoints.{run_is_reached, has_tables}
use Rattle.simplex_frac.proofs.BestPoints.{reached_of, best_tells, side_is_0}

pub basic_point_meets : BasicPointMeets
basic_point_meets rows made table basis scale x h sides =
    meets_at_cost rows table basis scale x (run_is_reached rows made table basis (reached_of h)) (record {
      each = λ line lt ge. ap (number_at table line) (last_is (has_tables rows made table basis (reached_of h)))
          ∙ side_is_0 rows made table basis line (reached_of h) sides (best_tells rows made table basis h).met lt ge;
    })
