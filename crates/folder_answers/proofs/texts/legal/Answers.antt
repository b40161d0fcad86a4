use Rattle.std.specs.Int.{w128}
use Rattle.std.proofs.Common.{◌++◌, ◌∙◌, ap}
use Rattle.std.proofs.lemmas.Int.{to_z-of_z}
use Rattle.fleet_model.specs.Schedule.{fleets_in}
use Rattle.rotation_report.specs.TextLines.{fleet_lines}
use Rattle.folder_answers.proofs.texts.legal.Goals as goal

pub returns : goal.returns
returns c =
    c.in_ok-push_fleets.ensures ∙ ap (λ front. front ++ fleet_lines c.args.tables.now c.args.plan.now (fleets_in c.args.tables.now)) (simp (to_z-of_z w128 c.args.cost c.ranges.cost) at c.in_ok-text.ensures)
