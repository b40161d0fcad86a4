use Rattle.std.proofs.Common.{◌∙◌, ap}
use Rattle.sums.proofs.Places.{list_below-push}
use Rattle.node_aggregate.specs.island_cut.Islands.{idles_of}
use Rattle.island_prices.specs.Least.{least_in}
use Rattle.island_prices.proofs.least.least_idle.Goals as goal

pub loop-station-preserved : goal.loop-station-preserved
loop-station-preserved c =
    c.in_ok-push.ensures.items
    ∙ list_below-push (least_in (idles_of c.args.tables.now)) c.loop-station.station _ _ c.loop-station.invariant (c.least_in.ensures ∙ ap (λ xs. least_in xs c.loop-station.station) (c.as_slice.ensures ∙ c.in_ok-idle.ensures))
