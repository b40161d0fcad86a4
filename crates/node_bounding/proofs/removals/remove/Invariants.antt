use Rattle.std.proofs.Common.{◌≡◌, drop}
use Rattle.fleet_model.specs.Kept.{kept_by}
use Rattle.presolve.specs.Removals.{kept_after}
use Rattle.node_bounding.proofs.removals.remove.Given as goal

-- what is kept so far without the rest of the removals is what is kept after all
abbrev pub invariant-loop-removal : goal.invariant-loop-removal
invariant-loop-removal l = kept_after (kept_by l.kept) (drop l.removal-index l.removals) ≡ kept_after (kept_by l.initial.kept) l.removals
