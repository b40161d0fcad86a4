use Rattle.std.proofs.Common.{◌∙◌, sym}
use Rattle.rotation_report.proofs.PlainText.{written_as_csv}
use Rattle.rotation_report.proofs.records.rotation_csv.Goals as goal

pub returns-in-Ok : goal.returns-in-Ok
returns-in-Ok c =
    c.in-Ok.ensures.ok ∙ c.in_ok-put_fleets.ensures.text ∙ sym (written_as_csv c.args.tables.now c.args.rotations.now c.args.visits c.requires)
