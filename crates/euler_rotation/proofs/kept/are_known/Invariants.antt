use Rattle.std.proofs.Common.{◌<◌, ℕ, slice_index}
use Rattle.fleet_model.specs.Schedule.{legs_in}
use Rattle.euler_rotation.proofs.kept.are_known.Given as goal

abbrev pub invariant-loop-leg : goal.invariant-loop-leg
invariant-loop-leg l = (k : ℕ) → k < l.leg-index → slice_index l.legs k < legs_in l.tables
