use Rattle.std.proofs.Common.{◌≡◌, ◌<◌, false, None}
use Rattle.fleet_model.specs.Kept.{kept_by}
use Rattle.fleet_model.specs.Schedule.{IsPair}
use Rattle.fleet_model.specs.declared.parts.Pair.{Pair}
use Rattle.presolve.specs.Removals.{before}
use Rattle.presolve.specs.Rules.{removed_by}
use Rattle.presolve.proofs.search.first_from.Given as goal

abbrev pub invariant-loop-leg : goal.invariant-loop-leg
invariant-loop-leg l = (p : Pair) → IsPair l.tables p → before p l.place ≡ false → p.leg < l.leg → removed_by l.tables (kept_by l.choices.kept) p ≡ None
