use Rattle.std.proofs.Common.{◌≡◌, ◌||◌, is_some}
use Rattle.fleet_model.specs.declared.parts.Pair.{Pair}
use Rattle.fleet_model.specs.Costs.{cost_in}
use Rattle.fleet_model.specs.Kept.{kept_by}
use Rattle.fleet_model.specs.Schedule.{fleet_by}
use Rattle.fleet_model.proofs.KeptTimes.{out_first}
use Rattle.fleet_model.proofs.kept.Kept.all.Given as goal

abbrev pub invariant-loop-leg : goal.invariant-loop-leg
invariant-loop-leg l = (p : Pair) → kept_by l.kept p ≡ (is_some (cost_in l.tables.costs p.leg (fleet_by l.tables p)) || out_first l.tables l.leg p)
