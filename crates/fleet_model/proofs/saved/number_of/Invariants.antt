use Rattle.std.proofs.Common.{◌≡◌, ◌<◌, ◌^◌}
use Rattle.fleet_model.specs.Bits.{number_of_bits}
use Rattle.fleet_model.proofs.saved.number_of.Given as goal

abbrev pub invariant-loop-place : goal.invariant-loop-place
invariant-loop-place l = record {
  value : l.number ≡ number_of_bits l.row l.first l.place;
  small : l.number < 2 ^ l.place;
}
