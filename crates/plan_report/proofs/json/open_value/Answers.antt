use Rattle.std.proofs.Common.{ap, ◌∙◌}
use Rattle.serde_json.specs.View.{members_view}
use Rattle.serde_json.proofs.Views.{view-Object}
use Rattle.plan_report.proofs.json.open_value.Goals as goal

pub put_open-requires : goal.put_open-requires
put_open-requires c = ap members_view c.new-object.ensures.empty

pub returns : goal.returns
returns c = view-Object c.put_open.new.members ∙ c.in_ok-put_open.ensures
