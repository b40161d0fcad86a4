use Rattle.std.proofs.Common.{◌≡◌, ◌<◌, length, subst, sym, ap, ◌∙◌, arith}
use Rattle.std.proofs.lemmas.List.{get_or_default}
use Rattle.euler_rotation.specs.FleetRotations.{IsKept, IsRotationFlown, last_made, no_rotation, rotation_of}
use Rattle.due_report.specs.Placings.{IsPlacing}
use Rattle.due_report.proofs.Pushed.{placing_pushed}
use Rattle.due_report.proofs.placing.placings.Goals as goal

pub loop-fleet-preserved : goal.loop-fleet-preserved
loop-fleet-preserved c =
    let t = c.args.tables.now in
    let a = c.args.plan.now in
    let rotations = c.args.rotations.now in
    let n = c.loop-fleet.fleet in
    let within : n < length rotations = omega arith in
    let same : c.last.result.now ≡ last_made (rotation_of rotations n) =
    c.last.ensures ∙ ap last_made (c.index-rotations-fleet.is ∙ get_or_default rotations n c.index-rotations-fleet.result no_rotation within) in
    placing_pushed t a rotations c.args.day c.args.tails.now c.loop-fleet.placings.items n c.in_ok-placing.field-0 c.push.new.self.items c.in_ok-push.ensures.items c.loop-fleet.invariant
    (subst (λ made. IsPlacing t a n c.args.day c.args.tails.now made c.in_ok-placing.field-0) same c.in_ok-placing.ensures)

pub placing-requires-clause-tour : goal.placing-requires-clause-tour
placing-requires-clause-tour c =
    let rotations = c.args.rotations.now in
    let n = c.loop-fleet.fleet in
    let within : n < length rotations = omega arith in
    let same : c.last.result.now ≡ last_made (rotation_of rotations n) =
    c.last.ensures ∙ ap last_made (c.index-rotations-fleet.is ∙ get_or_default rotations n c.index-rotations-fleet.result no_rotation within) in
    subst (IsRotationFlown c.args.tables.now c.args.plan.now n) (sym same) (c.requires.tours.each n within)

pub placing-requires-clause-kept : goal.placing-requires-clause-kept
placing-requires-clause-kept c =
    let rotations = c.args.rotations.now in
    let n = c.loop-fleet.fleet in
    let within : n < length rotations = omega arith in
    let same : c.last.result.now ≡ last_made (rotation_of rotations n) =
    c.last.ensures ∙ ap last_made (c.index-rotations-fleet.is ∙ get_or_default rotations n c.index-rotations-fleet.result no_rotation within) in
    subst (IsKept c.args.tables.now n) (sym same) (c.requires.kept.each n within)
