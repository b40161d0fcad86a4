use Rattle.std.proofs.Common.{sym, ap, ◌∙◌}
use Rattle.serde_json.specs.Data.{array}
use Rattle.serde_json.specs.View.{items_of}
use Rattle.serde_json.proofs.Views.{view-Array}
use Rattle.plan_report.specs.Json.{fleets_data}
use Rattle.plan_report.proofs.json.fleets_value.Goals as goal

pub returns-in_ok-planned_fleets-in-Planned : goal.returns-in_ok-planned_fleets-in-Planned
returns-in_ok-planned_fleets-in-Planned c =
    view-Array _ ∙ ap (λ fleets. array (items_of fleets)) c.in_ok-planned_fleets-in-Planned.ensures
    ∙ sym (ap (λ solved. array (items_of (fleets_data c.args.tables.now solved))) c.in-Planned.is)
