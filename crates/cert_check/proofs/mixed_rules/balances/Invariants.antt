use Rattle.std.proofs.Common.{◌≡◌, ◌<◌, ℕ}
use Rattle.fleet_model.specs.Counts.{arrived, departed}
use Rattle.fleet_model.specs.Schedule.{last_of}
use Rattle.dual_bound.specs.Fractions.{parts_in}
use Rattle.cert_check.proofs.mixed_rules.balances.Given as goal

abbrev pub invariant-loop-station : goal.invariant-loop-station
invariant-loop-station l = (s : ℕ) → s < l.station → arrived l.tables (parts_in l.mixed) l.fleet s (last_of l.tables) ≡ departed l.tables (parts_in l.mixed) l.fleet s (last_of l.tables)
