use Rattle.sums.specs.Below.{sum_below}
use Rattle.fleet_model.specs.Kept.{kept_by}
use Rattle.fleet_model.specs.Schedule.{fleets_in, stations_in}
use Rattle.presolve.specs.Cells.{AreCells}
use Rattle.presolve.specs.Ends.{end_station}
use Rattle.presolve.proofs.Landed.{counted}
use Rattle.presolve.proofs.counting.all_at.Given as goal

-- what the legs so far have
abbrev pub invariant-loop-leg : goal.invariant-loop-leg
invariant-loop-leg l = AreCells l.cells.items (λ f s. sum_below (counted l.tables (kept_by l.kept) (end_station l.tables l.end) f s) l.leg) (fleets_in l.tables) (stations_in l.tables)
