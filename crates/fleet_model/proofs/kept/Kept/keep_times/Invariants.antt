use Rattle.std.proofs.Common.{◌≡◌, ◌||◌}
use Rattle.fleet_model.specs.declared.parts.Pair.{Pair}
use Rattle.fleet_model.specs.Kept.{kept_by}
use Rattle.fleet_model.proofs.KeptTimes.{at_first}
use Rattle.fleet_model.proofs.kept.Kept.keep_times.Given as goal

abbrev pub invariant-loop-slot : goal.invariant-loop-slot
invariant-loop-slot l = (p : Pair) → kept_by l.self p ≡ (kept_by l.fn.self p || at_first l.tables l.entry l.slot p)
