use Rattle.std.proofs.Common.{◌≡◌, ◌++◌, map, ◌∙◌, subst}
use Rattle.std.specs.Result.{OnOk}
use Rattle.fleet_model.specs.Counts.{choice_at}
use Rattle.node_aggregate.specs.island_cut.Islands.{idle_at}
use Rattle.node_aggregate.proofs.island_cut.Told.{minutes_told}
use Rattle.node_aggregate.proofs.island_cut.idles.push_idles.Goals as goal

pub returns : goal.returns
returns c =
    subst (λ minutes. OnOk c.push_all.result (c.push_all.new.idles.items ≡ c.args.idles.now.items ++ map (idle_at c.args.station) minutes))
    (c.as_slice.ensures ∙ c.in_ok-minutes.ensures ∙ minutes_told c.args.tables.now (choice_at c.args.plan.now) c.requires.quickest c.requires.islands c.args.station) c.push_all.ensures
