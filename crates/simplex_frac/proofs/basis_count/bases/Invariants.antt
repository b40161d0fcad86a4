use Rattle.std.proofs.Common.{◌≡◌, ◌+◌, ◌≤◌, ◌-◌, ◌^◌}
use Rattle.sums.specs.Ways.{ways_to_choose}
use Rattle.simplex_frac.proofs.basis_count.bases.Given as goal

abbrev pub invariant-loop-chosen : goal.invariant-loop-chosen
invariant-loop-chosen l = record {
  count : l.count ≡ ways_to_choose (l.others + l.chosen) l.chosen;
  within : l.count ≤ 2 ^ 127 - 1;
}
