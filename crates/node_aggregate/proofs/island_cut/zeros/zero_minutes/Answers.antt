use Rattle.std.proofs.Common.{◌≡◌, IfOk, subst}
use Rattle.node_aggregate.proofs.island_cut.Told.{plan_told}
use Rattle.node_aggregate.proofs.island_cut.zeros.zero_minutes.Goals as goal

pub returns : goal.returns
returns c = subst (λ zeros. IfOk c.empty_minutes.result (λ minutes. minutes ≡ zeros)) (plan_told c.args.tables.now c.args.plan.now c.args.fleet c.requires.plan c.requires.fleet c.args.station) c.empty_minutes.ensures
