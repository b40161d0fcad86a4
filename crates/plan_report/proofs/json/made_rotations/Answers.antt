use Rattle.std.proofs.Common.{map, ap, ◌∙◌}
use Rattle.std.proofs.lemmas.List.{map_push}
use Rattle.serde_json.specs.View.{view}
use Rattle.sums.proofs.Places.{list_below-push}
use Rattle.plan_report.specs.Json.{rotation_data}
use Rattle.plan_report.proofs.json.made_rotations.Goals as goal

pub loop-fleet-preserved : goal.loop-fleet-preserved
loop-fleet-preserved c =
    ap (map view) c.in_ok-push.ensures.items ∙ map_push view c.loop-fleet.values.items c.in_ok-rotation_value.field-0
    ∙ list_below-push (rotation_data c.args.tables.now c.args.rotations.now) c.loop-fleet.fleet (map view c.loop-fleet.values.items) (view c.in_ok-rotation_value.field-0) c.loop-fleet.invariant c.in_ok-rotation_value.ensures
