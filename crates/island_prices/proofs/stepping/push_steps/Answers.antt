use Rattle.std.proofs.Common.{◌≡◌, ◌++◌, get_or, length, pos, subst, arith}
use Rattle.island_prices.specs.Steps.{steps_below}
use Rattle.island_prices.proofs.PaidRows.{minute_pushed, nothing_pushed}
use Rattle.island_prices.proofs.stepping.push_steps.Goals as goal

pub loop-minute-init : goal.loop-minute-init
loop-minute-init c = nothing_pushed (length c.args.row.now) (λ m. get_or c.args.row.now m (pos 0)) c.args.fleet c.args.station c.args.steps.now.items

pub loop-minute-preserved : goal.loop-minute-preserved
loop-minute-preserved c = minute_pushed (length c.args.row.now) (λ m. get_or c.args.row.now m (pos 0)) c.args.fleet c.args.station c.loop-minute.minute c.args.steps.now.items c.loop-minute.steps.items _ c.loop-minute.invariant c.in_ok-push_step.ensures

pub returns : goal.returns
returns c =
    let all : c.loop-minute.minute ≡ length c.args.row.now = omega arith in
    subst (λ n. c.loop-minute.steps.items ≡ c.args.steps.now.items ++ steps_below (length c.args.row.now) (λ m. get_or c.args.row.now m (pos 0)) c.args.fleet c.args.station n) all c.loop-minute.invariant
