use Rattle.std.proofs.Common.{◌≡◌, ◌<◌, ◌∙◌, subst, length, arith}
use Rattle.std.proofs.lemmas.List.{get_or_default}
use Rattle.plan_text.specs.CsvText.{HasWritten}
use Rattle.rotation_report.specs.RotationRecords.{fleet_records}
use Rattle.euler_rotation.specs.FleetRotations.{no_rotation, rotation_of}
use Rattle.rotation_report.proofs.RowWriting.{fleet_more}
use Rattle.rotation_report.proofs.records.put_fleets.Goals as goal

pub loop-fleet-preserved : goal.loop-fleet-preserved
loop-fleet-preserved c =
    let rotations = c.args.rotations.now in
    let within : c.loop-fleet.fleet < length rotations = omega arith in
    let same : c.index-rotations-fleet.result ≡ rotation_of rotations c.loop-fleet.fleet = c.index-rotations-fleet.is ∙ get_or_default rotations c.loop-fleet.fleet c.index-rotations-fleet.result no_rotation within in
    let one = subst (λ made. HasWritten c.loop-fleet.writer c.put_fleet.new.writer (fleet_records c.args.tables.now c.args.visits made c.loop-fleet.fleet)) same c.in_ok-put_fleet.ensures in
    record { between = one.between; text = fleet_more c.args.tables.now c.args.visits c.args.rotations.now c.loop-fleet.fleet c.loop-fleet.writer c.put_fleet.new.writer c.loop-fleet.invariant.text one }
