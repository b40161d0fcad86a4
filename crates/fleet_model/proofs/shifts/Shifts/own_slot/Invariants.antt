use Rattle.std.proofs.Common.{◌≡◌, ◌≤◌, slice_index_or, pos, int_lt}
use Rattle.sums.specs.Below.{count_below}
use Rattle.fleet_model.specs.Windows.{own_shift}
use Rattle.fleet_model.proofs.shifts.Shifts.own_slot.Given as goal

abbrev pub invariant-loop-shift : goal.invariant-loop-shift
invariant-loop-shift l = record {
  value : l.earlier ≡ count_below (λ k. int_lt (slice_index_or l.self k (own_shift 0)).minutes (pos 0)) l.shift-index;
  few : l.earlier ≤ l.shift-index;
}
