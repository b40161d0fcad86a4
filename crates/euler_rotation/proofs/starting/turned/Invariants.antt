use Rattle.std.proofs.Common.{◌≡◌, ◌+◌, ◌%◌, length, slice_index}
use Rattle.sums.specs.Places.{list_below}
use Rattle.euler_rotation.proofs.starting.turned.Given as goal

abbrev pub invariant-loop-step : goal.invariant-loop-step
invariant-loop-step l = l.legs.items ≡ list_below (λ k. slice_index l.tour ((k + l.place) % length l.tour)) l.step
