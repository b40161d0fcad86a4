use Rattle.std.proofs.Common.{◌≡◌, map}
use Rattle.serde_json.specs.View.{view}
use Rattle.sums.specs.Places.{list_below}
use Rattle.plan_report.specs.Json.{fleet_data}
use Rattle.plan_report.proofs.json.planned_fleets.Given as goal

abbrev pub invariant-loop-fleet : goal.invariant-loop-fleet
invariant-loop-fleet l = map view l.values.items ≡ list_below (fleet_data l.tables l.plan) l.fleet
