use Rattle.std.proofs.Common.{◌≡◌, map}
use Rattle.serde_json.specs.View.{view}
use Rattle.sums.specs.Places.{list_below}
use Rattle.plan_report.specs.Json.{rotation_data}
use Rattle.plan_report.proofs.json.made_rotations.Given as goal

abbrev pub invariant-loop-fleet : goal.invariant-loop-fleet
invariant-loop-fleet l = map view l.values.items ≡ list_below (rotation_data l.tables l.rotations) l.fleet
