use Rattle.std.proofs.Common.{ap, ◌∙◌}
use Rattle.serde_json.specs.View.{members_view}
use Rattle.serde_json.proofs.Views.{view-Object}
use Rattle.plan_report.proofs.json.fleet_value.Goals as goal

pub put_fleet-requires-clause-none : goal.put_fleet-requires-clause-none
put_fleet-requires-clause-none c = ap members_view c.new-object.ensures.empty

pub returns : goal.returns
returns c = view-Object c.put_fleet.new.members ∙ c.in_ok-put_fleet.ensures
