use Rattle.std.proofs.Common.{ap, ◌∙◌}
use Rattle.std.specs.Prelude.{◌+ℤ◌}
use Rattle.sched_read.proofs.retime_windows.SettledFit.{sum_held}
use Rattle.sched_read.proofs.retime_windows.settling.settled_cost.Goals as goal

pub returns : goal.returns
returns c =
    let entry = c.args.entry.now in
    ap (λ n. record { leg = entry.leg; fleet = entry.fleet; cost = n }) (sum_held entry.cost c.extra_of.result c.requires.entry.cost c.extra_of.ensures.small ∙ ap (λ n. entry.cost +ℤ n) c.extra_of.ensures.value)
