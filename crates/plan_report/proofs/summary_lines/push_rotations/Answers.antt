use Rattle.std.proofs.Common.{◌≡◌, ◌++◌, length, refl, ap, ◌∙◌, arith}
use Rattle.plan_report.specs.Summary.{rotation_line, rotation_lines}
use Rattle.printed_lines.proofs.Joined.{lines_more}
use Rattle.plan_report.proofs.summary_lines.push_rotations.Goals as goal

pub loop-fleet-preserved : goal.loop-fleet-preserved
loop-fleet-preserved c =
    let t = c.args.tables.now in
    let rotations = c.args.rotations.now in
    let n = c.loop-fleet.fleet in
    lines_more (rotation_lines t rotations) n (rotation_line t rotations n) c.args.text.now.items c.loop-fleet.text.items c.push_rotation.new.text.items refl c.loop-fleet.invariant c.in_ok-push_rotation.ensures

pub returns : goal.returns
returns c =
    let all : c.loop-fleet.fleet ≡ length c.args.rotations.now = omega arith in
    c.loop-fleet.invariant ∙ ap (λ n. c.args.text.now.items ++ rotation_lines c.args.tables.now c.args.rotations.now n) all
