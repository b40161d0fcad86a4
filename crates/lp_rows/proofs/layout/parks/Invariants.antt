use Rattle.std.proofs.Common.{◌≡◌}
use Rattle.lp_rows.specs.Layout.{concat_below, parks_at}
use Rattle.lp_rows.proofs.layout.parks.Given as goal

abbrev pub invariant-loop-station : goal.invariant-loop-station
invariant-loop-station l = l.parks.items ≡ concat_below (parks_at l.tables) l.station
