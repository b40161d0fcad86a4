use Rattle.std.proofs.Common.{refl, ◌≡◌, ◌++◌, ap, ◌∙◌, arith}
use Rattle.fleet_model.specs.Schedule.{fleets_in}
use Rattle.rotation_report.specs.TextLines.{fleet_line, fleet_lines}
use Rattle.printed_lines.proofs.Joined.{lines_more}
use Rattle.rotation_report.proofs.text_lines.push_fleets.Goals as goal

pub loop-fleet-preserved : goal.loop-fleet-preserved
loop-fleet-preserved c =
    let t = c.args.tables.now in
    let plan = c.args.plan.now in
    let n = c.loop-fleet.fleet in
    lines_more (fleet_lines t plan) n (fleet_line t plan n) c.args.text.now.items c.loop-fleet.text.items c.push_fleet.new.text.items refl c.loop-fleet.invariant c.in_ok-push_fleet.ensures

pub returns : goal.returns
returns c =
    let all : c.loop-fleet.fleet ≡ fleets_in c.args.tables.now = omega (arith, c.loop-fleet-test.false, c.loop-fleet.auto.fleet-end, c.fleet_count-fleet-end.ensures) in
    c.loop-fleet.invariant ∙ ap (λ n. c.args.text.now.items ++ fleet_lines c.args.tables.now c.args.plan.now n) all
