use Rattle.sums.specs.Below.{sum_below}
use Rattle.fleet_model.specs.Kept.{kept_by}
use Rattle.fleet_model.specs.Schedule.{fleets_in, period_of}
use Rattle.presolve.specs.Cells.{AreCells}
use Rattle.presolve.specs.Rules.{busy_alone}
use Rattle.presolve.proofs.alone.all_alone.Given as goal

-- what the legs so far keep busy
abbrev pub invariant-loop-leg : goal.invariant-loop-leg
invariant-loop-leg l = AreCells l.cells.items (λ f m. sum_below (busy_alone l.tables (kept_by l.kept) f m) l.leg) (fleets_in l.tables) (period_of l.tables)
