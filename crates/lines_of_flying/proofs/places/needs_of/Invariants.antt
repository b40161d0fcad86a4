use Rattle.std.proofs.Common.{◌≡◌, ℕ, ◌<◌, ◌≤◌}
use Rattle.sums.specs.Places.{list_below}
use Rattle.fleet_model.specs.Schedule.{legs_in}
use Rattle.lines_of_flying.specs.Grounds.{need_at}
use Rattle.lines_of_flying.proofs.places.needs_of.Given as goal

abbrev pub invariant-loop-station : goal.invariant-loop-station
invariant-loop-station l = record {
  all : l.needs.items ≡ list_below (need_at l.ground) l.station;
  few : (k : ℕ) → k < l.station → need_at l.ground k ≤ legs_in l.ground.tables.now;
}
