use Rattle.std.proofs.Common.{◌≡◌, length}
use Rattle.fleet_model.specs.Kept.{kept_by}
use Rattle.fleet_model.proofs.SoleFleets.{FliesSole}
use Rattle.fleet_model.proofs.kept.Kept.sole.Given as goal

abbrev pub invariant-loop-leg : goal.invariant-loop-leg
invariant-loop-leg l = record {
  flown : length l.plan ≡ l.leg;
  sole : FliesSole l.tables (kept_by l.self) l.plan;
}
