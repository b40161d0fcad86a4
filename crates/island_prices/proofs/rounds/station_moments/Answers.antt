use Rattle.std.proofs.Common.{◌∙◌}
use Rattle.sums.proofs.Places.{list_below-push}
use Rattle.island_prices.specs.Rounds.{rise_moments}
use Rattle.island_prices.proofs.rounds.station_moments.Goals as goal

pub loop-station-preserved : goal.loop-station-preserved
loop-station-preserved c = c.in_ok-push.ensures.items ∙ list_below-push (rise_moments c.args.tables.now c.args.rises.now) c.loop-station.station c.loop-station.stations.items _ c.loop-station.invariant c.in_ok-moments.ensures
