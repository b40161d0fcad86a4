use Rattle.std.proofs.Common.{◌≡◌, ◌≤◌, ◌==◌, slice_index}
use Rattle.sums.specs.Below.{count_below}
use Rattle.euler_rotation.proofs.kept.times_in.Given as goal

abbrev pub invariant-loop-other : goal.invariant-loop-other
invariant-loop-other l = record {
  counted : l.times ≡ count_below (λ k. slice_index l.legs k == l.leg) l.other-index;
  few : l.times ≤ l.other-index;
}
