use Rattle.std.proofs.Common.{◌≡◌, slice_index}
use Rattle.plan_rotations.specs.through_flights.Choice.{turns_below}
use Rattle.plan_rotations.specs.through_flights.Chosen.{is_chosen}
use Rattle.plan_rotations.proofs.through_flights.choosing.chosen_pairs.Given as goal

abbrev pub invariant-loop-leg : goal.invariant-loop-leg
invariant-loop-leg l = l.pairs.items ≡ turns_below (is_chosen l.worths l.columns) (slice_index l.columns) l.leg
