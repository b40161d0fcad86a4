use Rattle.std.proofs.Common.{◌≡◌, ◌+◌, ◌*◌, pos, ◌*ℤ◌}
use Rattle.fleet_model.specs.Schedule.{parking_limit}
use Rattle.sums.specs.Below.{sum_below_ℤ}
use Rattle.dual_bound.specs.Prices.{charge_of}
use Rattle.dual_bound.specs.Sizes.{IsUpTo}
use Rattle.dual_bound.proofs.worth_less.station_charges.Given as goal

abbrev pub invariant-loop-day : goal.invariant-loop-day
invariant-loop-day l = record {
  added : l.sum ≡ sum_below_ℤ (λ d. charge_of l.prices l.station (d + 1) *ℤ pos (parking_limit l.tables l.station)) l.day;
  size : IsUpTo (10000 * l.day) l.sum;
}
