use Rattle.std.proofs.Common.{sym, ap, ◌∙◌}
use Rattle.serde_json.specs.Data.{array}
use Rattle.serde_json.specs.View.{items_of}
use Rattle.serde_json.proofs.Views.{view-Array}
use Rattle.plan_report.specs.Json.{rotations_data}
use Rattle.plan_report.proofs.json.rotations_value.Goals as goal

pub returns-in_ok-made_rotations-in-Planned : goal.returns-in_ok-made_rotations-in-Planned
returns-in_ok-made_rotations-in-Planned c =
    view-Array _ ∙ ap (λ rotations. array (items_of rotations)) c.in_ok-made_rotations-in-Planned.ensures
    ∙ sym (ap (λ solved. array (items_of (rotations_data c.args.tables.now solved c.args.rotations.now))) c.in-Planned.is)
