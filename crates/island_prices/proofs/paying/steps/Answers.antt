use Rattle.std.proofs.Common.{◌≡◌, arith}
use Rattle.fleet_model.specs.Schedule.{fleets_in}
use Rattle.island_prices.specs.Paid.{paid_price, paid_rent}
use Rattle.island_prices.proofs.PaidRows.{all_done, behind_first, fleet_fails, no_fleet, one_fleet}
use Rattle.island_prices.proofs.paying.steps.Goals as goal

pub loop-fleet-init : goal.loop-fleet-init
loop-fleet-init c = no_fleet c.args.tables.now (paid_rent c.args.paid.now.before c.args.paid.now.rounds.now) (paid_price c.args.paid.now.before c.args.paid.now.rises.now c.args.paid.now.rounds.now) _ c.new-steps.ensures.items

pub returns-in-Err-clause-steps : goal.returns-in-Err-clause-steps
returns-in-Err-clause-steps c =
    fleet_fails c.args.tables.now (paid_rent c.args.paid.now.before c.args.paid.now.rounds.now) (paid_price c.args.paid.now.before c.args.paid.now.rises.now c.args.paid.now.rounds.now) c.loop-fleet.steps.items c.loop-fleet.fleet c.in-Err.error
    c.loop-fleet.invariant (omega arith) c.in-Err.ensures.pushed

pub returns-in-Err-clause-memory : goal.returns-in-Err-clause-memory
returns-in-Err-clause-memory c =
    behind_first c.args.tables.now (paid_rent c.args.paid.now.before c.args.paid.now.rounds.now) (paid_price c.args.paid.now.before c.args.paid.now.rises.now c.args.paid.now.rounds.now) c.loop-fleet.steps.items c.loop-fleet.fleet c.in-Err.error
    c.loop-fleet.invariant c.in-Err.ensures.memory

pub loop-fleet-preserved : goal.loop-fleet-preserved
loop-fleet-preserved c =
    one_fleet c.args.tables.now (paid_rent c.args.paid.now.before c.args.paid.now.rounds.now) (paid_price c.args.paid.now.before c.args.paid.now.rises.now c.args.paid.now.rounds.now) c.loop-fleet.steps.items _ c.loop-fleet.fleet c.loop-fleet.invariant
    c.in-Ok.ensures.pushed.0 c.in-Ok.ensures.pushed.1

pub returns-clause-steps : goal.returns-clause-steps
returns-clause-steps c =
    let all : c.loop-fleet.fleet ≡ fleets_in c.args.tables.now = omega arith in
    all_done c.args.tables.now (paid_rent c.args.paid.now.before c.args.paid.now.rounds.now) (paid_price c.args.paid.now.before c.args.paid.now.rises.now c.args.paid.now.rounds.now) c.loop-fleet.steps.items c.loop-fleet.fleet all c.loop-fleet.invariant
