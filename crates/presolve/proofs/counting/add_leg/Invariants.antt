use Rattle.std.proofs.Common.{◌==◌, if◌then◌else◌}
use Rattle.sums.specs.Below.{count_below}
use Rattle.fleet_model.specs.Kept.{kept_by}
use Rattle.fleet_model.specs.Schedule.{fleets_in, stations_in}
use Rattle.presolve.specs.Cells.{AreMore}
use Rattle.presolve.specs.Rules.{flies}
use Rattle.presolve.proofs.counting.add_leg.Given as goal

-- what the choices so far add
abbrev pub invariant-loop-choice : goal.invariant-loop-choice
invariant-loop-choice l = AreMore (λ f s. if l.station == s then count_below (flies l.tables (kept_by l.kept) f l.leg) l.choice else 0) (fleets_in l.tables) (stations_in l.tables) l.fn.cells.items l.cells.items
