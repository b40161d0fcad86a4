use Rattle.std.proofs.Common.{◌≡◌, ◌||◌, drop, is_some}
use Rattle.fleet_model.specs.declared.parts.Pair.{Pair}
use Rattle.fleet_model.specs.Costs.{cost_in}
use Rattle.fleet_model.specs.Kept.{kept_by}
use Rattle.fleet_model.specs.Schedule.{fleet_by}
use Rattle.fleet_model.proofs.kept.Kept.flown.Given as goal

abbrev pub invariant-loop-entry : goal.invariant-loop-entry
invariant-loop-entry l =
    (p : Pair) → (kept_by l.kept p || is_some (cost_in (drop l.entry-index l.tables.costs) p.leg (fleet_by l.tables p))) ≡ is_some (cost_in l.tables.costs p.leg (fleet_by l.tables p))
